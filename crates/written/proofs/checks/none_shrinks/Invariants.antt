-- `checks::none_shrinks` meets its contract. The loop's invariant: none of the measures before could be minimised further.
use Rattle.definitions.specs.Written.{notes_in}
use Rattle.written.proofs.Counts.{ShrinkFrom}
use Rattle.written.proofs.checks.none_shrinks.Given as goal

abbrev pub invariant-loop-count : goal.invariant-loop-count
invariant-loop-count l = ShrinkFrom l.lanes.count (notes_in l.records) l.counts l.count-index l.first l.above
