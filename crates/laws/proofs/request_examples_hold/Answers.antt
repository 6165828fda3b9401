use Rattle.definitions.specs.RequestExamples.{request-examples-hold}
use Rattle.laws.proofs.request_examples_hold.Goals as goal

pub returns : goal.returns
returns c = request-examples-hold
