-- `checks::records_kept` meets its contract. The loop's invariant: what the walk has found of the records before.
use Rattle.written.proofs.Walk.{WalkFrom}
use Rattle.written.proofs.checks.records_kept.Given as goal

abbrev pub invariant-loop-bytes : goal.invariant-loop-bytes
invariant-loop-bytes l = WalkFrom l.lanes.count l.rows l.records l.bytes-index l.walked
