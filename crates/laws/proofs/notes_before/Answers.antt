use Rattle.definitions.proofs.Consequences.EarlierNotes.{notes-before}
use Rattle.definitions.proofs.Damage.Stays.{damage-stays}
use Rattle.laws.proofs.notes_before.Goals as goal

pub returns : goal.returns
returns c = λ L d old new x. notes-before (damage-stays L d old new x)
