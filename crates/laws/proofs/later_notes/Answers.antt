use Rattle.definitions.proofs.Consequences.LaterNotes.{later-notes}
use Rattle.definitions.proofs.Damage.Stays.{damage-stays}
use Rattle.laws.proofs.later_notes.Goals as goal

pub returns : goal.returns
returns c = λ L d old new x. later-notes (damage-stays L d old new x)
