-- `PairedTally::close_cell` meets its contract: with a head open, and with none.
use mathlib.Core.Path.{refl, sym}
use Rattle.definitions.specs.declared.Cell.TheVariants.{Tail}
use Rattle.paired_tally.proofs.Within.{within-few, within-low, within-ready, ended-is, cell-on, close-on, head-before}
use Rattle.paired_tally.proofs.PairedTally.close_cell.Goals as goal

pub pop-requires : goal.pop-requires
pop-requires c = within-ready c.requires.reached c.requires.inside

pub count_own-requires-clause-few : goal.count_own-requires-clause-few
count_own-requires-clause-few c = within-few c.requires.reached

pub count_own-requires-clause-entry_low : goal.count_own-requires-clause-entry_low
count_own-requires-clause-entry_low c = within-low c.requires.reached c.args.at.row

pub end_pair-requires-clause-few : goal.end_pair-requires-clause-few
end_pair-requires-clause-few c = within-few c.requires.reached

pub end_pair-requires-clause-row_entry_low : goal.end_pair-requires-clause-row_entry_low
end_pair-requires-clause-row_entry_low c = within-low c.requires.reached c.args.at.row

pub end_pair-requires-clause-head_entry_low : goal.end_pair-requires-clause-head_entry_low
end_pair-requires-clause-head_entry_low c = within-low c.requires.reached _

pub end_pair-requires-clause-earlier : goal.end_pair-requires-clause-earlier
end_pair-requires-clause-earlier c = head-before c.requires.reached c.requires.inside _ (sym c.requires.known) (ended-is c.in-Some.is (c.pop.ensures _))

pub returns-in-None : goal.returns-in-None
returns-in-None c =
    cell-on c.requires.reached c.requires.inside Tail c.requires.known refl refl
    (rw c.count_own.ensures.tracker (ended-is c.in-None.is (c.pop.ensures _)))
    (rw c.direction-towards.ensures at c.count_own.ensures.value)
    c.count_own.ensures.work_after

pub returns-in-Some : goal.returns-in-Some
returns-in-Some c =
    close-on c.requires.reached c.requires.inside _ (sym c.requires.known) (ended-is c.in-Some.is (c.pop.ensures _)) refl
    (rw c.direction-towards.ensures at c.end_pair.ensures.value)
    c.end_pair.ensures.work_after
