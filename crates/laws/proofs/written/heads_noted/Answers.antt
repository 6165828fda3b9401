use Rattle.definitions.proofs.Consequences.Written.{heads-noted}
use Rattle.definitions.proofs.DroppedOrNoted.{dropped-or-noted}
use Rattle.definitions.proofs.Written.Reads.{written-reads-back}
use Rattle.laws.proofs.written.heads_noted.Goals as goal

pub returns : goal.returns
returns c = heads-noted written-reads-back dropped-or-noted
