use Rattle.definitions.specs.Examples.{examples-hold}
use Rattle.laws.proofs.examples_hold.Goals as goal

pub returns : goal.returns
returns c = examples-hold
