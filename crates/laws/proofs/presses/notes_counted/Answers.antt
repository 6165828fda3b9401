use Rattle.definitions.proofs.Presses.{notes-counted}
use Rattle.laws.proofs.presses.notes_counted.Goals as goal

pub returns : goal.returns
returns c = notes-counted
