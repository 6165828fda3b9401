use Rattle.definitions.proofs.Consequences.Dropped.{later-drops}
use Rattle.definitions.proofs.Damage.Dropped.{dropped-stays}
use Rattle.laws.proofs.later_drops.Goals as goal

pub returns : goal.returns
returns c = λ L d old new x. later-drops (dropped-stays L d old new x)
