-- `files::next_tag` meets its contract: a line that begins with the word has the tag; else the lines below it are looked at.
use Rattle.std.proofs.Common.{◌≡◌, Bool, Option, Some, List, ℕ, ◌+◌, ◌-◌, ◌≤◌, length, nat_eq, option_map, sym, ap, ◌∙◌, arith}
use lib.ListN.{take, drop}
use Rattle.std.specs.Cmp.Lexicographic.{pointwise, nat_list_eq_equiv}
use Rattle.std.specs.List.{starts_with}
use Rattle.definitions.specs.SmFile.{Tag}
use Rattle.definitions.proofs.ChartRows.{trim-short}
use Rattle.lines.specs.Lines.{lines_from}
use Rattle.lines.proofs.Trims.{part-all}
use Rattle.lines.proofs.Lines.{lines_start, line-within}
use Rattle.files.specs.Tags.{first_tag, after_tag}
use Rattle.files.proofs.Tags.{tag-none, tag-here, tag-next}
use Rattle.files.proofs.next_tag.Goals as goal
use Rattle.files.proofs.next_tag.Goals.{In-Some}

-- what follows the first tag of some lines of a text, which are those from a place on
abbrev below : List ℕ → List ℕ → ℕ → List (List ℕ) → Option (List ℕ)
below word text at lines = option_map (λ (t : Tag). drop t.end text) (first_tag word at lines)

pub loop-start-init : goal.loop-start-init
unfolding after_tag
loop-start-init c = ap (below c.args.word.now c.args.text.now 0) (sym (lines_start c.args.text.now))

-- the line ends in the text, and the word stands on it
ends : (c : In-Some) → length c.next_line.result.0.now + c.loop-start.start ≤ length c.args.text.now
ends c = rw c.next_line.ensures.line (line-within c.args.text.now c.loop-start.start (omega (arith, c.loop-start-test.true)))

short : (c : In-Some) → length c.skip_ws-bare.result.now ≤ length c.next_line.result.0.now
short c = rw c.skip_ws-bare.ensures (trim-short _)

pub overflow_sub-result : goal.overflow_sub-result
overflow_sub-result c = omega (arith, short c, c.in-Some.ensures.cases)

pub slice_bounds-result-count : goal.slice_bounds-result-count
slice_bounds-result-count c = omega (arith, ends c)

pub slice_bounds-result-start : goal.slice_bounds-result-start
slice_bounds-result-start c = omega (arith, ends c)

-- std's test of a prefix, and that of the definitions
begun : {t : Bool} (s word : List ℕ) → pointwise nat_eq (take (length word) s) word ≡ t → starts_with nat_eq s word ≡ t
begun s word e = sym (nat_list_eq_equiv.symm (take (length word) s) word) ∙ e

-- the place past the tag, by what of the line is left
past : (at a b w l : ℕ) → a + w ≡ b → b ≤ l → at + (l - b) + w ≡ at + l - a
past at a b w l e h = omega arith

pub returns-in-Some : goal.returns-in-Some
returns-in-Some c =
    let here =
    tag-here c.args.word.now c.args.text.now c.loop-start.start _ _ (omega (arith, c.loop-start-test.true)) c.next_line.ensures.line c.skip_ws-bare.ensures
    (begun c.skip_ws-bare.result.now c.args.word.now c.in-Some.ensures.cases.0) in
    rw part-all
    (sym (c.loop-start.invariant
    ∙ ap (option_map (λ (t : Tag). drop t.end c.args.text.now)) here
    ∙ ap (λ n. Some (drop n c.args.text.now)) (past _ _ _ _ _ c.in-Some.ensures.cases.2 (short (goal.at.returns-in-Some c).In-Some))))

pub loop-start-preserved : goal.loop-start-preserved
loop-start-preserved c =
    let next : c.loop-start.start + length c.next_line.result.0.now + 1 ≡ c.loop-start.start + (length c.next_line.result.0.now + 1) = omega arith in
    c.loop-start.invariant
    ∙ ap (option_map (λ (t : Tag). drop t.end c.args.text.now))
    (tag-next c.args.word.now c.args.text.now c.loop-start.start _ _ (omega (arith, c.loop-start-test.true)) c.next_line.ensures.line c.skip_ws-bare.ensures
    (begun c.skip_ws-bare.result.now c.args.word.now c.in_default.ensures.cases))
    ∙ ap (λ n. below c.args.word.now c.args.text.now n (lines_from c.args.text.now n)) next

pub returns : goal.returns
returns c =
    sym (c.loop-start.invariant ∙ ap (option_map (λ (t : Tag). drop t.end c.args.text.now)) (tag-none c.args.word.now c.args.text.now c.loop-start.start (omega (arith, c.loop-start-test.false))))
