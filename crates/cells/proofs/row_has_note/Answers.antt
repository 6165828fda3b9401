-- `cells::row_has_note` meets its contract: the cells that are looked at are all of the row's.
use mathlib.Core.Path.{◌≡◌, refl, ap, ap₂, sym, ◌∙◌}
use mathlib.Core.Bool.{Bool, ◌||◌}
use mathlib.Core.List.{[]}
use Prim.Native.Nat.{ℕ, ◌+◌, ◌*◌, ◌-◌, ◌<◌}
use native.Mathlib.Omega.{arith}
use lib.ListN.{length, get_or}
use Rattle.definitions.specs.Lines.{Row}
use Rattle.definitions.specs.Figures.{is_step}
use Rattle.lines.specs.Words.{half_word_at, bytes_of_word}
use Rattle.lines.proofs.WordBytes.{bytes_read}
use Rattle.lines.proofs.RowWords.{places, picks, picks-word, picks-bytes}
use Rattle.cells.proofs.Ends.{step-four, step-ends, step-wide, step-append, between}
use Rattle.cells.proofs.row_has_note.Goals as goal

-- what a word of two halves tells
told : (r : Row) (i j x y : ℕ) (t : Bool) → ((k : ℕ) → get_or r k 0 < 256) → x ≡ half_word_at r i → y ≡ half_word_at r j → t ≡ is_step (bytes_of_word (x + y * 4294967296))
    → t ≡ is_step (picks r (places i (places j [])))
told r i j x y t h ex ey e =
    e
    ∙ ap is_step
    (bytes_read (picks r (places i (places j []))) _ refl (picks-bytes r h (places i (places j [])))
    (picks-word r i j ∙ ap₂ (λ (x y : ℕ). x + y * 4294967296) (sym ex) (sym ey)))

pub returns-then-n-eq4 : goal.returns-then-n-eq4
returns-then-n-eq4 c =
    c.word_has_note.ensures
    ∙ ap (λ w. is_step (bytes_of_word w)) c.half_at.ensures.value
    ∙ step-four c.args.row.now c.if-n-eq4.true (λ k. (c.type_inv.row k).fits)

pub returns-then-n-le8 : goal.returns-then-n-le8
returns-then-n-le8 c =
    let b = between (length c.args.row.now) c.if-n.false in
    told c.args.row.now 0 (length c.args.row.now - 4) _ _ _ (λ k. (c.type_inv.row k).fits) c.half_at-then-n-le8.ensures.value c.half_at-then-n-le8-2.ensures.value c.word_has_note-then-n-le8.ensures
    ∙ step-ends c.args.row.now (length c.args.row.now - 4) (omega (arith, b.0)) (omega (arith, c.if-n-le8.true))

pub returns : goal.returns
returns c =
    let b = between (length c.args.row.now) c.if-n.false in
    let n = length c.args.row.now in
    let first = told c.args.row.now 0 4 _ _ _ (λ k. (c.type_inv.row k).fits) c.half_at-2.ensures.value c.half_at-3.ensures.value c.word_has_note-first.ensures in
    let last = told c.args.row.now (n - 8) (n - 4) _ _ _ (λ k. (c.type_inv.row k).fits) c.half_at-4.ensures.value c.half_at-5.ensures.value c.word_has_note-2.ensures in
    ap₂ (λ (x y : Bool). x || y) first last
    ∙ step-append (picks c.args.row.now (places 0 (places 4 []))) (picks c.args.row.now (places (n - 8) (places (n - 4) [])))
    ∙ step-wide c.args.row.now (omega (arith, c.if-n-le8.false)) b.1
