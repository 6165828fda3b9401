use Rattle.definitions.specs.TallyExamples.{tally-examples-hold}
use Rattle.laws.proofs.tally_examples_hold.Goals as goal

pub returns : goal.returns
returns c = tally-examples-hold
