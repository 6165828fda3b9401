-- `places::Place::of_cell` meets its contract.
use native.Mathlib.Omega.{arith}
use Rattle.written.proofs.Placing.{place-value, cell-room}
use Rattle.written.proofs.places.Place.of_cell.Goals as goal

pub overflow_add-result-2 : goal.overflow_add-result-2
overflow_add-result-2 c =
    omega (arith, place-value c.requires.place, cell-room c.args.lanes.count c.args.counts.now c.args.row c.args.column c.requires.row_below c.requires.column, c.requires.short)

pub overflow_add-result-3 : goal.overflow_add-result-3
overflow_add-result-3 c =
    omega (arith, place-value c.requires.place, cell-room c.args.lanes.count c.args.counts.now c.args.row c.args.column c.requires.row_below c.requires.column, c.requires.short)

pub returns-clause-value : goal.returns-clause-value
returns-clause-value c = omega (arith, place-value c.requires.place)

pub returns-clause-within : goal.returns-clause-within
returns-clause-within c =
    omega (arith, place-value c.requires.place, cell-room c.args.lanes.count c.args.counts.now c.args.row c.args.column c.requires.row_below c.requires.column)
