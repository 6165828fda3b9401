-- `objects::LastScan::add_column` meets its contract: a `0` does nothing, an M and a K block.
use Rattle.definitions.specs.Cells.{cell_of}
use Rattle.objects.proofs.Columns.{done-empty, blocking}
use Rattle.objects.proofs.LastScan.add_column.Goals as goal

pub returns-in-48 : goal.returns-in-48
unfolding cell_of
returns-in-48 c = done-empty _ _ _ (rw c.in-48.is)

pub returns-in-77 : goal.returns-in-77
returns-in-77 c = rw (blocking _ c.in-77.is) c.block.ensures
