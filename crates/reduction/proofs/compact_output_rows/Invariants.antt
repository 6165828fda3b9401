-- `reduction::compact_output_rows` meets its contract: the first `row` of the rows that stay have been moved. Assumes nothing.
use Prim.Native.Nat.{◌-◌, ◌^◌}
use mathlib.Core.Path.{◌≡◌}
use Rattle.reduction.proofs.Compaction.{Moved}
use Rattle.reduction.proofs.compact_output_rows.Given as goal

abbrev pub invariant-loop-row : goal.invariant-loop-row
invariant-loop-row l = (l.step ≡ 2 ^ l.shift) × Moved l.initial.text l.start l.rows l.step l.left l.width l.text l.row

abbrev pub decreases-loop-row : goal.decreases-loop-row
decreases-loop-row l = l.left - l.row
