use Rattle.definitions.proofs.Presses.{columns-counted}
use Rattle.laws.proofs.presses.columns_counted.Goals as goal

pub returns : goal.returns
returns c = columns-counted
