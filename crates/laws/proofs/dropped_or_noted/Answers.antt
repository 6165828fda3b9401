use Rattle.definitions.proofs.DroppedOrNoted.{dropped-or-noted}
use Rattle.laws.proofs.dropped_or_noted.Goals as goal

pub returns : goal.returns
returns c = dropped-or-noted
