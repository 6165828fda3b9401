use Rattle.definitions.proofs.CleanTrace.{clean-trace}
use Rattle.definitions.proofs.Consequences.Presses.{one-trace_passes}
use Rattle.laws.proofs.presses.one_trace_passes.Goals as goal

pub returns : goal.returns
returns c = one-trace_passes clean-trace
