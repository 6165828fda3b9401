-- `lines::text_below` meets its contract: what the search finds by two words tells where the next line begins. Assumes nothing.
use Rattle.std.proofs.Common.{◌≡◌, ◌+◌, ◌<◌, ◌≤◌, length, drop, sym, ◌∙◌, arith}
use Rattle.std.specs.Prelude.{Some, ◌==◌}
use Rattle.std.specs.List.{position_from}
use Rattle.definitions.specs.Lists.{after}
use Rattle.lines.proofs.Search.{below-found, below-same}
use Rattle.lines.proofs.Trims.{part-all}
use Rattle.lines.proofs.text_below.Goals as goal
use Rattle.lines.proofs.text_below.Goals.{In-Some, In-Some-find_in_word}

-- in the first word
near : (c : In-Some) → (c.in-Some.near < length c.args.«data».now) × (drop (c.in-Some.near + 1) c.args.«data».now ≡ after 10 (drop 0 c.args.«data».now))
near c =
    let e : position_from (λ x. x == 10) 0 (drop 0 c.args.«data».now) ≡ Some c.in-Some.near = rw c.in-Some.is at c.find_in_word.ensures in
    let h : ◌≤◌ 0 (length c.args.«data».now) = omega arith in
    below-found 10 _ 0 _ h e

-- in the second
next : (c : In-Some-find_in_word)
    → (c.in-Some-find_in_word.next < length c.args.«data».now) × (drop (c.in-Some-find_in_word.next + 1) c.args.«data».now ≡ after 10 (drop 0 c.args.«data».now))
next c =
    let d : position_from (λ x. x == 10) 0 (drop 0 c.args.«data».now) ≡ position_from (λ x. x == 10) 8 (drop 8 c.args.«data».now) = rw c.in_default.is at c.find_in_word.ensures in
    let e : position_from (λ x. x == 10) 8 (drop 8 c.args.«data».now) ≡ Some c.in-Some-find_in_word.next = rw c.in-Some-find_in_word.is at c.find_in_word-2.ensures in
    let h : ◌≤◌ 0 (length c.args.«data».now) = omega arith in
    below-found 10 _ 0 _ h (d ∙ e)

pub overflow_add-result : goal.overflow_add-result
overflow_add-result c = omega (arith, near c)

pub slice_bounds-result-count : goal.slice_bounds-result-count
slice_bounds-result-count c = omega (arith, near (goal.at.slice_bounds-result-count c).In-Some)

pub slice_bounds-result-start : goal.slice_bounds-result-start
slice_bounds-result-start c = omega (arith, near (goal.at.slice_bounds-result-start c).In-Some)

pub returns-in-Some : goal.returns-in-Some
returns-in-Some c = rw part-all (near (goal.at.returns-in-Some c).In-Some).1

pub overflow_add-result-in-Some-find_in_word : goal.overflow_add-result-in-Some-find_in_word
overflow_add-result-in-Some-find_in_word c = omega (arith, next c)

pub slice_bounds-result-count-in-Some-find_in_word : goal.slice_bounds-result-count-in-Some-find_in_word
slice_bounds-result-count-in-Some-find_in_word c = omega (arith, next (goal.at.slice_bounds-result-count-in-Some-find_in_word c).In-Some-find_in_word)

pub slice_bounds-result-start-in-Some-find_in_word : goal.slice_bounds-result-start-in-Some-find_in_word
slice_bounds-result-start-in-Some-find_in_word c = omega (arith, next (goal.at.slice_bounds-result-start-in-Some-find_in_word c).In-Some-find_in_word)

pub returns-in-Some-find_in_word : goal.returns-in-Some-find_in_word
returns-in-Some-find_in_word c = rw part-all (next (goal.at.returns-in-Some-find_in_word c).In-Some-find_in_word).1

pub returns : goal.returns
returns c =
    let d : position_from (λ x. x == 10) 0 (drop 0 c.args.«data».now) ≡ position_from (λ x. x == 10) 8 (drop 8 c.args.«data».now) = rw c.in_default.is at c.find_in_word.ensures in
    let e : position_from (λ x. x == 10) 8 (drop 8 c.args.«data».now) ≡ position_from (λ x. x == 10) 16 (drop 16 c.args.«data».now) = rw c.in_default-find_in_word.is at c.find_in_word-2.ensures in
    let h : ◌≤◌ 0 (length c.args.«data».now) = omega arith in
    c.text_far-2.ensures ∙ sym (below-same 10 _ 0 16 h (omega (arith, c.if-data-lt16.false)) (d ∙ e))
