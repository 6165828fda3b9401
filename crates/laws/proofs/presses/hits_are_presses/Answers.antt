use Rattle.definitions.proofs.Consequences.Presses.{hits-are_presses}
use Rattle.definitions.proofs.Presses.{presses-counted}
use Rattle.laws.proofs.presses.hits_are_presses.Goals as goal

pub returns : goal.returns
returns c = hits-are_presses presses-counted
