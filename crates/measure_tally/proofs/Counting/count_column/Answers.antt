-- `measure_tally::Counting::count_column` meets its contract: a `0` is an empty cell, and the counts before the cell have room for it.
use native.Mathlib.Omega.{arith}
use Rattle.definitions.specs.Cells.{cell_of}
use Rattle.measure_tally.proofs.Cells.{cell-empty}
use Rattle.measure_tally.specs.Cells.{more}
use Rattle.measure_tally.proofs.Line.{reached-few, reached-low}
use Rattle.measure_tally.proofs.Counting.count_column.Goals as goal

pub returns-then-b-eq48 : goal.returns-then-b-eq48
unfolding cell_of
returns-then-b-eq48 c s before = more before (cell-empty _ _ _ _ (rw c.if-b-eq48.true))

pub count_digit-requires-clause-few : goal.count_digit-requires-clause-few
count_digit-requires-clause-few c = reached-few _ _ _ c.requires.reached (omega (arith, c.requires.inside, c.requires.narrow))

pub count_digit-requires-clause-low : goal.count_digit-requires-clause-low
count_digit-requires-clause-low c = reached-low _ _ _ c.requires.reached (omega (arith, c.requires.inside, c.requires.narrow))

pub count_letter-requires-clause-few : goal.count_letter-requires-clause-few
count_letter-requires-clause-few c = reached-few _ _ _ c.requires.reached (omega (arith, c.requires.inside, c.requires.narrow))

pub count_letter-requires-clause-low : goal.count_letter-requires-clause-low
count_letter-requires-clause-low c = reached-low _ _ _ c.requires.reached (omega (arith, c.requires.inside, c.requires.narrow))

pub returns-then-b-le52 : goal.returns-then-b-le52
returns-then-b-le52 c s before = more before c.count_digit.ensures

pub returns-else-b-le52 : goal.returns-else-b-le52
returns-else-b-le52 c s before = more before c.count_letter.ensures
