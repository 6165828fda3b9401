use Rattle.definitions.proofs.Consequences.Dropped.{list-rises}
use Rattle.definitions.proofs.DroppedOrNoted.{dropped-or-noted}
use Rattle.laws.proofs.list_rises.Goals as goal

pub returns : goal.returns
returns c = λ L text. list-rises (dropped-or-noted L text)
