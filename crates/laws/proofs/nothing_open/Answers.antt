use Rattle.definitions.proofs.Consequences.EarlierNotes.{nothing-open}
use Rattle.definitions.proofs.Damage.Stays.{damage-stays}
use Rattle.laws.proofs.nothing_open.Goals as goal

pub returns : goal.returns
returns c = λ L d old new x. nothing-open (damage-stays L d old new x)
