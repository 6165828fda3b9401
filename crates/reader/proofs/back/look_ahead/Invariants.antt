-- The loop's invariant: no row stood before what is left.
use Rattle.std.proofs.Common.{◌≡◌, length}
use Rattle.definitions.specs.ReadBack.{rows_read_back}
use Rattle.reader.specs.Reading.{LineStep}
use Rattle.reader.proofs.back.look_ahead.Given as goal

abbrev pub invariant-loop-lanes : goal.invariant-loop-lanes
invariant-loop-lanes l = LineStep l.lanes.count l.told × (rows_read_back l.lanes.count l.text ≡ rows_read_back l.lanes.count l.rest)

abbrev pub decreases-loop-lanes : goal.decreases-loop-lanes
decreases-loop-lanes l = length l.rest
