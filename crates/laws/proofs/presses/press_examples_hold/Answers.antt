use Rattle.definitions.specs.PressExamples.{press-examples-hold}
use Rattle.laws.proofs.presses.press_examples_hold.Goals as goal

pub returns : goal.returns
returns c = press-examples-hold
