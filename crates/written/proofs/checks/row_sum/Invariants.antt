-- `checks::row_sum` meets its contract. The loop's invariant: so many rows have the measures before.
use Rattle.written.proofs.Counts.{SumFrom}
use Rattle.written.proofs.checks.row_sum.Given as goal

abbrev pub invariant-loop-count : goal.invariant-loop-count
invariant-loop-count l = SumFrom l.counts l.count-index l.rows
