use Rattle.definitions.proofs.Consequences.Examples.{examples-counted}
use Rattle.laws.proofs.examples_counted.Goals as goal

pub returns : goal.returns
returns c = examples-counted
