-- `PairedTally::count_met` meets its contract: each arm is a kind of cell.
use mathlib.Core.Path.{◌∙◌, sym}
use Rattle.paired_tally.proofs.Heads.{hold-byte, roll-byte, effect-of}
use Rattle.paired_tally.proofs.PairedTally.count_met.Goals as goal

pub open_cell-requires-clause-known : goal.open_cell-requires-clause-known
open_cell-requires-clause-known g c = hold-byte _ (sym c.in-Hold.is ∙ c.cell_of.ensures)

pub open_cell-requires-clause-opens : goal.open_cell-requires-clause-opens
open_cell-requires-clause-opens g c = effect-of _ (sym c.in-Hold.is ∙ c.cell_of.ensures)

pub open_cell-requires-in-Roll-clause-known : goal.open_cell-requires-in-Roll-clause-known
open_cell-requires-in-Roll-clause-known g c = roll-byte _ (sym c.in-Roll.is ∙ c.cell_of.ensures)

pub open_cell-requires-in-Roll-clause-opens : goal.open_cell-requires-in-Roll-clause-opens
open_cell-requires-in-Roll-clause-opens g c = effect-of _ (sym c.in-Roll.is ∙ c.cell_of.ensures)
