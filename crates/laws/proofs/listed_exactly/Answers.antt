use Rattle.definitions.proofs.Consequences.Dropped.{listed-exactly}
use Rattle.definitions.proofs.DroppedOrNoted.{dropped-or-noted}
use Rattle.laws.proofs.listed_exactly.Goals as goal

pub returns : goal.returns
returns c = λ L text. listed-exactly (dropped-or-noted L text)
