-- `places::Place::of_row` meets its contract. The loop's invariant: a measure's place, and the row is in it or past it.
use native.Mathlib.Omega.{arith}
use Rattle.written.proofs.Placing.{next-low}
use Rattle.written.proofs.places.Place.of_row.Goals as goal

pub overflow_add-place-in-loop-place-3 : goal.overflow_add-place-in-loop-place-3
overflow_add-place-in-loop-place-3 c =
    omega (arith, next-low c.loop-place.invariant c.loop-place-test.true c.if-row-place.false c.requires.row_below, c.requires.short)

pub overflow_add-place-in-loop-place-4 : goal.overflow_add-place-in-loop-place-4
overflow_add-place-in-loop-place-4 c =
    omega (arith, next-low c.loop-place.invariant c.loop-place-test.true c.if-row-place.false c.requires.row_below, c.requires.short)
