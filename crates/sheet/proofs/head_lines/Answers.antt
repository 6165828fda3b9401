-- The seven lines, one after the other.
use mathlib.Core.Path.{◌≡◌, refl, subst}
use mathlib.Core.List.{List}
use Prim.Native.Nat.{ℕ}
use Rattle.sheet.specs.Sheet.{lines_of_head}
use Rattle.page.specs.declared.Page.{Page}
use Rattle.page.specs.Prints.{Appends}
use Rattle.page.proofs.Pages.{appends_then}
use Rattle.sheet.proofs.head_lines.Goals as goal

-- what is appended
abbrev appended : {a b : Page} {x : List ℕ} → Appends a x b → List ℕ
appended {x = x} p = x

pub returns : goal.returns
unfolding lines_of_head
returns c =
    let lines =
    appends_then
    (appends_then
    (appends_then
    (appends_then
    (appends_then
    (appends_then c.in_ok-figure_line.ensures c.in_ok-figure_line-2.ensures) c.in_ok-figure_line-3.ensures)
    c.in_ok-figure_line-4.ensures)
    c.in_ok-figure_line-5.ensures)
    c.in_ok-figure_line-6.ensures)
    c.in_ok-figure_line-7.ensures
    in
    let head : appended lines ≡ lines_of_head c.args.figures.now = refl in
    subst (λ l. Appends c.args.page.now l c.figure_line-7.new.page) head lines
