-- `presses::trace_rises` meets its contract. The loop's invariant: the trace is right where the presses to come are after the last one.
use Rattle.std.proofs.Common.{◌≡◌, ◌&&◌}
use Rattle.definitions.specs.Presses.{presses_in, presses_rise, columns_fit}
use Rattle.presses.proofs.Records.{to_come}
use Rattle.presses.proofs.Orders.{fits_after}
use Rattle.presses.proofs.trace_rises.Given as goal

abbrev pub invariant-loop-bytes : goal.invariant-loop-bytes
invariant-loop-bytes l = (columns_fit (presses_in l.trace) && presses_rise (presses_in l.trace)) ≡ fits_after l.last (to_come l.trace l.bytes-index)
