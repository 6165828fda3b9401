use Rattle.definitions.proofs.Presses.{presses-counted}
use Rattle.laws.proofs.presses.presses_counted.Goals as goal

pub returns : goal.returns
returns c = presses-counted
