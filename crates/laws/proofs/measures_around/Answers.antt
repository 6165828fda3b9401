use Rattle.definitions.proofs.Consequences.Measures.{measures-around}
use Rattle.definitions.proofs.Damage.Stays.{damage-stays}
use Rattle.laws.proofs.measures_around.Goals as goal

pub returns : goal.returns
returns c = λ L d old new x. measures-around (damage-stays L d old new x)
