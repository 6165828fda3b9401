-- `PairedTally::open_cell` meets its contract: the head is pushed.
use mathlib.Core.Path.{refl}
use Rattle.paired_tally.proofs.Within.{within-ready, open-on}
use Rattle.paired_tally.proofs.PairedTally.open_cell.Goals as goal

pub push-requires : goal.push-requires
push-requires c = within-ready c.requires.reached c.requires.inside

pub returns : goal.returns
returns c = open-on c.requires.reached c.requires.inside c.requires.opens (rw c.requires.known at c.push.ensures) refl refl
