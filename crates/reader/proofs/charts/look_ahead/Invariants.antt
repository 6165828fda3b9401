-- The loop's invariant: no mark stood before what is left.
use Rattle.std.proofs.Common.{◌≡◌, length}
use Rattle.reader.specs.Marks.{chart_marks}
use Rattle.reader.proofs.charts.look_ahead.Given as goal

abbrev pub invariant-loop-lanes : goal.invariant-loop-lanes
invariant-loop-lanes l = chart_marks l.lanes.count l.text ≡ chart_marks l.lanes.count l.rest

abbrev pub decreases-loop-lanes : goal.decreases-loop-lanes
decreases-loop-lanes l = length l.rest
