use Rattle.definitions.proofs.Consequences.Presses.{unplayed-columns}
use Rattle.definitions.proofs.Presses.{notes-counted}
use Rattle.laws.proofs.presses.unplayed_columns.Goals as goal

pub returns : goal.returns
returns c = unplayed-columns notes-counted
