-- `measure_tally::Counting::count_letter` meets its contract: what each letter does to its column, and the tally with the cell.
use mathlib.Core.Path.{refl}
use Rattle.definitions.specs.Cells.{cell_of}
use Rattle.measure_tally.proofs.Cells.{cell-counted, cell-unheld}
use Rattle.measure_tally.proofs.Counting.count_letter.Goals as goal

pub returns-in-77 : goal.returns-in-77
unfolding cell_of
returns-in-77 c = cell-counted _ _ _ _ _ _ _ (rw c.in-77.is) c.block.ensures c.count.ensures

pub returns-in-75 : goal.returns-in-75
unfolding cell_of
returns-in-75 c = cell-unheld _ _ _ _ _ _ (rw c.in-75.is) refl c.count-in-75.ensures
