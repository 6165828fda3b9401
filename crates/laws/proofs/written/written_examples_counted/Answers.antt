use Rattle.definitions.proofs.Consequences.Written.{written-examples_counted}
use Rattle.laws.proofs.written.written_examples_counted.Goals as goal

pub returns : goal.returns
returns c = written-examples_counted
