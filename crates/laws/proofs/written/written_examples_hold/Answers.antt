use Rattle.definitions.specs.WrittenExamples.{written-examples-hold}
use Rattle.laws.proofs.written.written_examples_hold.Goals as goal

pub returns : goal.returns
returns c = written-examples-hold
