-- The loop's invariant: the slice begins with the records that are left of the first `k`, and from record `k` on it is as it was.
use Rattle.std.proofs.Common.{true}
use Rattle.row_notes.proofs.Retaining.{Retaining}
use Rattle.row_notes.proofs.retain_valid.Given as goal

abbrev pub invariant-loop-k : goal.invariant-loop-k
invariant-loop-k l = Retaining l.initial.notes l.count true l.notes l.stay l.k
