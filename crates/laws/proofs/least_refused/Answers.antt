use Rattle.definitions.proofs.SmBlocks.{least-refused}
use Rattle.laws.proofs.least_refused.Goals as goal

pub returns : goal.returns
returns c = least-refused
