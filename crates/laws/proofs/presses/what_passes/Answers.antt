use Rattle.definitions.proofs.CleanTrace.{clean-trace}
use Rattle.definitions.proofs.Consequences.Presses.{what-passes}
use Rattle.definitions.proofs.Presses.{presses-counted, notes-counted, columns-counted}
use Rattle.definitions.proofs.TraceCounted.{trace-counted}
use Rattle.laws.proofs.presses.what_passes.Goals as goal

pub returns : goal.returns
returns c = what-passes (trace-counted presses-counted notes-counted columns-counted clean-trace)
