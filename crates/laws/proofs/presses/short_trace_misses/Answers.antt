use Rattle.definitions.proofs.Consequences.Presses.{short-trace_misses}
use Rattle.definitions.proofs.Presses.{presses-counted, notes-counted}
use Rattle.laws.proofs.presses.short_trace_misses.Goals as goal

pub returns : goal.returns
returns c = short-trace_misses presses-counted notes-counted
