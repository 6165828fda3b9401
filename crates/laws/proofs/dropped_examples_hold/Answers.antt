use Rattle.definitions.specs.DroppedExamples.{dropped-examples-hold}
use Rattle.laws.proofs.dropped_examples_hold.Goals as goal

pub returns : goal.returns
returns c = dropped-examples-hold
