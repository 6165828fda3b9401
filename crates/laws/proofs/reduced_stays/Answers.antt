use Rattle.definitions.proofs.Consequences.Minimising.{reduced-stays}
use Rattle.definitions.proofs.Reduction.{reduce-halved}
use Rattle.laws.proofs.reduced_stays.Goals as goal

pub returns : goal.returns
returns c = reduced-stays reduce-halved
