-- `corrected_tally::count_paired` meets its contract. The loop's invariant: the rows that have come are counted.
use mathlib.Core.Bool.{true, false}
use Rattle.reader.proofs.BackLoops.{BackHolds}
use Rattle.paired_tally.proofs.Reading.{Reading}
use Rattle.corrected_tally.proofs.count_paired.Given as goal

abbrev pub invariant-loop-cells : goal.invariant-loop-cells
invariant-loop-cells l = BackHolds l.fn.lanes.count l.text (λ rows. Reading true (λ i. false) l.fn.lanes.count rows l.row l.counted l.work) l.yielded l.cells-iterator
