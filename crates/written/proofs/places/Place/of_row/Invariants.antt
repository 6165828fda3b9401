-- `places::Place::of_row` meets its contract. The loop's invariant: a measure's place, and the row is in it or past it.
use lib.ListN.{length}
use Prim.Native.Nat.{◌-◌}
use Rattle.written.proofs.Placing.{RowAhead}
use Rattle.written.proofs.places.Place.of_row.Given as goal

abbrev pub invariant-loop-place : goal.invariant-loop-place
invariant-loop-place l = RowAhead l.lanes.count l.counts l.row l.place

abbrev pub decreases-loop-place : goal.decreases-loop-place
decreases-loop-place l = length l.counts - l.place.measure
