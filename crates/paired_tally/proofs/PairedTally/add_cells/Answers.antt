-- `PairedTally::add_cells` meets its contract: the row begins with its entry.
use Rattle.paired_tally.proofs.Begin.{begin-within, row-counted}
use Rattle.paired_tally.proofs.PairedTally.add_cells.Goals as goal

pub count_all-requires-clause-reached : goal.count_all-requires-clause-reached
count_all-requires-clause-reached g c =
    begin-within _ _ c.args.work.now c.begin.ensures.here c.begin.ensures.others
    c.requires.reached c.requires.narrow (rw c.begin.ensures.same_size c.requires.entry_room) c.requires.rows_few

pub returns : goal.returns
returns g c = row-counted _ _ _ c.begin.ensures.here c.begin.ensures.others c.count_all.ensures
