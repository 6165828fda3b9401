-- `measure_walk::Walk::walk_rows` meets its contract. The loop's invariant: the first i rows are walked, and the next one stands at `at`.
use Prim.Native.Nat.{◌-◌}
use Rattle.reduction.specs.Rows.{rows_of}
use Rattle.measure_walk.proofs.Runs.{RowsWalked}
use Rattle.measure_walk.proofs.Walk.walk_rows.Given as goal

abbrev pub invariant-loop-i : goal.invariant-loop-i
invariant-loop-i l = RowsWalked l.lanes l.start l.rows (rows_of l.lanes l.rows l.text l.start) l.initial.self l.initial.slots l.self l.slots l.i l.at

abbrev pub decreases-loop-i : goal.decreases-loop-i
decreases-loop-i l = l.rows - l.i
