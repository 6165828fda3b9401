use Rattle.definitions.proofs.Consequences.EarlierNotes.{open-heads}
use Rattle.definitions.proofs.Damage.Stays.{damage-stays}
use Rattle.laws.proofs.open_heads.Goals as goal

pub returns : goal.returns
returns c = λ L d old new x. open-heads (damage-stays L d old new x)
