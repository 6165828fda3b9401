use Rattle.definitions.proofs.Consequences.Dropped.{heads-shared}
use Rattle.definitions.proofs.DroppedOrNoted.{dropped-or-noted}
use Rattle.laws.proofs.heads_shared.Goals as goal

pub returns : goal.returns
returns c = λ L text. heads-shared (dropped-or-noted L text)
