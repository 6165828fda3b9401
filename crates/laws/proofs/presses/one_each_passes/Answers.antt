use Rattle.definitions.proofs.CleanTrace.{clean-trace}
use Rattle.definitions.proofs.Consequences.Presses.{one-each_passes}
use Rattle.definitions.proofs.Presses.{presses-counted, notes-counted, columns-counted}
use Rattle.definitions.proofs.TraceCounted.{trace-counted}
use Rattle.laws.proofs.presses.one_each_passes.Goals as goal

pub returns : goal.returns
returns c = one-each_passes (trace-counted presses-counted notes-counted columns-counted clean-trace)
