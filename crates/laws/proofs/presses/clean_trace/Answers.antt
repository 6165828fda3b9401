use Rattle.definitions.proofs.CleanTrace.{clean-trace}
use Rattle.laws.proofs.presses.clean_trace.Goals as goal

pub returns : goal.returns
returns c = clean-trace
