-- `reduction::measure_reduce_shift` meets its contract. The outer loop has found a stride that the rows allow; the inner loop has seen that
-- the rows that the next stride would drop are all zero, as far as `row`. Assumes nothing.
use Prim.Native.Nat.{ℕ, ◌≤◌, ◌<◌, ◌-◌, ◌+◌, ◌*◌}
use mathlib.Core.Path.{◌≡◌, sym, ◌∙◌, ap}
use native.Mathlib.Omega.{arith}
use native.Mathlib.Nat.{le-mul_of_pos_right}
use lib.ListN.{take, drop, get_or}
use mathlib.Core.List.{List, []}
use mathlib.Core.Bool.{Bool}
use Rattle.definitions.proofs.Reduction.{below_power}
use Rattle.definitions.specs.Reduction.{all_zero}
use Rattle.reduction.proofs.Strides.{shift_is, stride-small}
use Rattle.reduction.specs.Rows.{rows_at}
use Rattle.reduction.proofs.RowsAt.{rows-length, row-part}
use Rattle.reduction.proofs.Powers.{twice-fits}
use Rattle.reduction.proofs.Search.{found-start, found-step, found-odd, found-stop, looked-step}
use Rattle.reduction.proofs.measure_reduce_shift.Goals as goal

-- twice the stride found is not more than the rows, which are fewer than 2 ^ 63
rows_fit : (c : goal.After-loop-row) → c.args.rows < 9223372036854775808
rows_fit c = omega (arith, le-mul_of_pos_right {m = c.args.width} c.args.rows (omega arith))

twice : (c : goal.After-loop-row) → 2 * c.search.step ≤ c.args.rows
twice c =
    twice-fits _ _ _ c.search.invariant.count c.search.invariant.some c.search-test.true

-- what the all-zero test of a part of the text says of the row that stands there
row_zero : (text : List ℕ) (start w L n k : ℕ) {z : Bool} → k < n → z ≡ all_zero (take (start + k * w + L - (start + k * w)) (drop (start + k * w) text))
    → all_zero (get_or (rows_at w L n (drop start text)) k []) ≡ z
row_zero text start w L n k h e = ap all_zero (row-part text start w L n k h) ∙ sym e

pub returns-then-rows-lt2 : goal.returns-then-rows-lt2
returns-then-rows-lt2 c =
    let all = shift_is _ _ 0 (rows-length _ _ _ _) (stride-small _ (simp rows-length (omega arith))) in
    record { value = all.0; divides = all.1 }

pub search-init : goal.search-init
search-init c = found-start _ _ (rows-length _ _ _ _) (omega arith)

pub loop-row-preserved : goal.loop-row-preserved
loop-row-preserved c =
    looked-step c.loop-row.invariant
    (row_zero c.args.text.now c.args.start c.args.width c.args.lanes c.args.rows c.loop-row.row c.loop-row-test.true c.is_all_zero.ensures ∙ c.if-not-is_all_zero.false)

pub overflow_add-shift : goal.overflow_add-shift
overflow_add-shift c = omega (arith, rows_fit c, twice c, below_power c.search.shift)

pub search-preserved : goal.search-preserved
search-preserved c = found-step c.search.invariant c.search-test.true c.loop-row.invariant c.loop-row-test.false

pub returns-after-search : goal.returns-after-search
returns-after-search c =
    let all = shift_is _ _ _ (rows-length _ _ _ _) (found-odd c.search.invariant c.search-test.false) in
    record { value = all.0; divides = all.1 }

pub returns-then-not-is_all_zero : goal.returns-then-not-is_all_zero
returns-then-not-is_all_zero c =
    let all = shift_is _ _ _ (rows-length _ _ _ _)
    (found-stop c.search.invariant c.loop-row.invariant c.loop-row-test.true
    (row_zero c.args.text.now c.args.start c.args.width c.args.lanes c.args.rows c.loop-row.row c.loop-row-test.true c.is_all_zero.ensures ∙ c.if-not-is_all_zero.true)) in
    record { value = all.0; divides = all.1 }
