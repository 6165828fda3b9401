-- `entry::with_cell` meets its contract.
use Rattle.paired_tally.proofs.entry.with_cell.Goals as goal

pub returns-then-plain : goal.returns-then-plain
returns-then-plain c = rw c.if-plain.true (c.with_plain.ensures c.args.judged)
