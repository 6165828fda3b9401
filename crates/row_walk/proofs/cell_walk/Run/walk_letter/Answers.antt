-- `cell_walk::Run::walk_letter` meets its contract.
use Rattle.definitions.specs.Cells.{cell_of}
use Rattle.row_walk.proofs.cell_walk.Run.walk_letter.Goals as goal

pub returns-in-77-clause-walked : goal.returns-in-77-clause-walked
unfolding cell_of
returns-in-77-clause-walked c = rw c.in-77.is c.walk_mine.ensures.walked

pub returns-in-77-clause-counted : goal.returns-in-77-clause-counted
unfolding cell_of
returns-in-77-clause-counted c = rw c.in-77.is c.walk_mine.ensures.counted

pub returns-in-75-clause-walked : goal.returns-in-75-clause-walked
unfolding cell_of
returns-in-75-clause-walked c = rw c.in-75.is c.walk_keysound.ensures.walked

pub returns-in-75-clause-counted : goal.returns-in-75-clause-counted
unfolding cell_of
returns-in-75-clause-counted c = rw c.in-75.is c.walk_keysound.ensures.counted
