-- `PairedTally::pass_cell` meets its contract: one cell more.
use mathlib.Core.Path.{refl}
use Rattle.holds.proofs.Stacks.{step-nothing}
use Rattle.paired_tally.proofs.Within.{within-few, within-low, within-ready, cell-on}
use Rattle.paired_tally.proofs.PairedTally.pass_cell.Goals as goal

pub count_own-requires-clause-few : goal.count_own-requires-clause-few
count_own-requires-clause-few c = within-few c.requires.reached

pub count_own-requires-clause-entry_low : goal.count_own-requires-clause-entry_low
count_own-requires-clause-entry_low c = within-low c.requires.reached c.args.at.row

pub returns : goal.returns
returns c =
    cell-on c.requires.reached c.requires.inside c.args.cell c.requires.known c.requires.passes refl
    (rw c.count_own.ensures.tracker (step-nothing (within-ready c.requires.reached c.requires.inside) _))
    (rw c.direction-towards.ensures at c.count_own.ensures.value)
    c.count_own.ensures.work_after
