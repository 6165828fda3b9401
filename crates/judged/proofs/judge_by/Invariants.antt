-- `judged::judge_by` meets its contract. The loop's invariant: the rows that have come are counted.
use mathlib.Core.Bool.{false}
use Rattle.reader.proofs.BackLoops.{BackHolds}
use Rattle.paired_tally.proofs.Reading.{Reading}
use Rattle.judged.specs.Timing.{judged_by}
use Rattle.judged.proofs.judge_by.Given as goal

abbrev pub invariant-loop-cells : goal.invariant-loop-cells
invariant-loop-cells l = BackHolds l.fn.lanes.count l.data (λ rows. Reading false (judged_by l.fn.flags) l.fn.lanes.count rows l.row l.counted l.work) l.yielded l.cells-iterator
