use Rattle.definitions.proofs.Consequences.Dropped.{open-drops}
use Rattle.definitions.proofs.Damage.Dropped.{dropped-stays}
use Rattle.definitions.proofs.Damage.Stays.{damage-stays}
use Rattle.laws.proofs.open_drops.Goals as goal

pub returns : goal.returns
returns c = λ L d old new x. open-drops (damage-stays L d old new x) (dropped-stays L d old new x)
