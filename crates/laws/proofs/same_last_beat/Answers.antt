use Rattle.definitions.proofs.Consequences.LastBeat.{same-last-beat}
use Rattle.definitions.proofs.Damage.Stays.{damage-stays}
use Rattle.laws.proofs.same_last_beat.Goals as goal

pub returns : goal.returns
returns c = λ L d old new x. same-last-beat (damage-stays L d old new x)
