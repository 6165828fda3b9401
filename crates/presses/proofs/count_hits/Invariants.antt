-- `presses::count_hits` meets its contract. The loop's invariant: the hits of the presses before are counted.
use Rattle.presses.proofs.Counts.{Walking}
use Rattle.presses.proofs.count_hits.Given as goal

abbrev pub invariant-loop-bytes : goal.invariant-loop-bytes
invariant-loop-bytes l = Walking l.records l.trace l.hits l.next l.bytes-index l.last
