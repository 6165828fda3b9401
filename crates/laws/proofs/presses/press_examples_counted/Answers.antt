use Rattle.definitions.proofs.Consequences.Presses.{press-examples_counted}
use Rattle.laws.proofs.presses.press_examples_counted.Goals as goal

pub returns : goal.returns
returns c = press-examples_counted
