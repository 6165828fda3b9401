-- `lines::next_line` meets its contract: the search's answer is the line's length, or says that the rest is the line.
use Rattle.std.proofs.Common.{◌≡◌, ℕ, ◌+◌, ◌<◌, ◌≤◌, Some, None, List, ◌==◌, length, drop, position, sym, ap, ◌∙◌, arith, length-drop, drop-drop, drop_of_length-le}
use native.Mathlib.Nat.{add-sub_cancel_left}
use Rattle.definitions.specs.Lists.{up_to, after}
use Rattle.lines.specs.Lines.{first_line}
use Rattle.lines.proofs.Search.{front_at, front_all, after_at, after_all}
use Rattle.lines.proofs.Trims.{part-all}
use Rattle.lines.proofs.next_line.Goals as goal
use Rattle.lines.proofs.next_line.Goals.{In-Some, In-None}

-- what is searched, and what is found
abbrev from : List ℕ → ℕ → List ℕ
from text start = drop start text

found : (c : In-Some) → position (λ x. x == 10) (from c.args.«data».now c.args.start) ≡ Some c.in-Some.rel
found c = rw part-all at (sym c.find_byte.ensures ∙ c.in-Some.is)

none : (c : In-None) → position (λ x. x == 10) (from c.args.«data».now c.args.start) ≡ None
none c = rw part-all at (sym c.find_byte.ensures ∙ c.in-None.is)

-- the place lies in the text
within : (c : In-Some) → c.args.start + c.in-Some.rel < length c.args.«data».now
within c = omega (arith, (front_at 10 (drop c.args.start c.args.«data».now) c.in-Some.rel (found c)).0, length-drop c.args.start c.args.«data».now)

pub overflow_add-result : goal.overflow_add-result
overflow_add-result c = omega (arith, within c)

pub slice_bounds-result-end : goal.slice_bounds-result-end
slice_bounds-result-end c = omega (arith, within c)

pub returns-in-Some-clause-line : goal.returns-in-Some-clause-line
unfolding first_line
returns-in-Some-clause-line c =
    rw add-sub_cancel_left (front_at 10 _ _ (found (goal.at.returns-in-Some-clause-line c).In-Some)).1

pub returns-in-Some-clause-below : goal.returns-in-Some-clause-below
returns-in-Some-clause-below c =
    let text = c.args.«data».now in
    let start = c.args.start in
    let rel = c.in-Some.rel in
    let place : start + rel + 1 ≡ start + (rel + 1) = omega arith in
    rw part-all
    (ap (λ n. drop n text) place
    ∙ sym (drop-drop (rel + 1) start text)
    ∙ sym (part-all (drop start text) (rel + 1))
    ∙ after_at 10 _ _ (found (goal.at.returns-in-Some-clause-below c).In-Some))

pub returns-in-None-clause-line : goal.returns-in-None-clause-line
unfolding first_line
returns-in-None-clause-line c = rw part-all (sym (front_all 10 _ (none (goal.at.returns-in-None-clause-line c).In-None)))

pub returns-in-None-clause-below : goal.returns-in-None-clause-below
returns-in-None-clause-below c = after_all 10 _ (none (goal.at.returns-in-None-clause-below c).In-None)

pub returns-else-start-data-clause-line : goal.returns-else-start-data-clause-line
unfolding first_line up_to
returns-else-start-data-clause-line c =
    let past : length c.args.«data».now ≤ c.args.start = omega arith in
    rw (drop_of_length-le c.args.«data».now past)

pub returns-else-start-data-clause-below : goal.returns-else-start-data-clause-below
unfolding after up_to
returns-else-start-data-clause-below c =
    let past : length c.args.«data».now ≤ c.args.start = omega arith in
    rw (drop_of_length-le c.args.«data».now past)
