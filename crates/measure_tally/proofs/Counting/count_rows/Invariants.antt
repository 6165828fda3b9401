-- The rows before row `i` are counted, and the next one stands at `at`.
use Prim.Native.Nat.{◌-◌}
use Rattle.reduction.specs.Rows.{rows_of}
use Rattle.measure_tally.proofs.Places.{CountingAll}
use Rattle.measure_tally.proofs.Counting.count_rows.Given as goal

abbrev pub invariant-loop-i : goal.invariant-loop-i
invariant-loop-i l = CountingAll l.lanes (rows_of l.lanes l.rows l.text l.start) l.start l.rows l.initial.self l.self l.i l.at

abbrev pub decreases-loop-i : goal.decreases-loop-i
decreases-loop-i l = l.rows - l.i
