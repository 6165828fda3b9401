-- `presses::look` meets its contract. The loop's invariant: what was found of the records before.
use Rattle.presses.proofs.Looking.{LookFrom}
use Rattle.presses.proofs.look.Given as goal

abbrev pub invariant-loop-bytes : goal.invariant-loop-bytes
invariant-loop-bytes l = LookFrom l.records l.bytes-index l.order l.played
