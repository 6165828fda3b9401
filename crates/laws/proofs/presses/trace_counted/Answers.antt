use Rattle.definitions.proofs.CleanTrace.{clean-trace}
use Rattle.definitions.proofs.Presses.{presses-counted, notes-counted, columns-counted}
use Rattle.definitions.proofs.TraceCounted.{trace-counted}
use Rattle.laws.proofs.presses.trace_counted.Goals as goal

pub returns : goal.returns
returns c = trace-counted presses-counted notes-counted columns-counted clean-trace
