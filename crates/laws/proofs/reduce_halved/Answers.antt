use Rattle.definitions.proofs.Reduction.{reduce-halved}
use Rattle.laws.proofs.reduce_halved.Goals as goal

pub returns : goal.returns
returns c = reduce-halved
