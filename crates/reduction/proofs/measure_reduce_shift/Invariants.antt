-- `reduction::measure_reduce_shift` meets its contract. The outer loop has found a stride that the rows allow; the inner loop has seen that
-- the rows that the next stride would drop are all zero, as far as `row`. Assumes nothing.
use Prim.Native.Nat.{◌-◌}
use lib.ListN.{drop}
use Rattle.reduction.specs.Rows.{rows_at}
use Rattle.reduction.proofs.Search.{Found, Looked}
use Rattle.reduction.proofs.measure_reduce_shift.Given as goal

abbrev pub invariant-loop-row : goal.invariant-loop-row
invariant-loop-row l = Looked (rows_at l.width l.lanes l.rows (drop l.start l.text)) l.step l.row

abbrev pub decreases-loop-row : goal.decreases-loop-row
decreases-loop-row l = l.rows - l.row

abbrev pub invariant-search : goal.invariant-search
invariant-search l = Found (rows_at l.width l.lanes l.rows (drop l.start l.text)) l.rows l.shift l.step l.left

abbrev pub decreases-search : goal.decreases-search
decreases-search l = l.left
