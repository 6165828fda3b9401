-- `judged_pass::judge_clean` meets its contract. The loop's invariant: what the pass has is that of the rows that have come, and they were clean.
use Rattle.definitions.specs.ReadBack.{rows_read_back}
use Rattle.reader.proofs.BackLoops.{BackHolds}
use Rattle.judged.proofs.JudgedPass.{Passes}
use Rattle.judged.proofs.judged_pass.judge_clean.Given as goal

abbrev pub invariant-loop-row : goal.invariant-loop-row
invariant-loop-row l = BackHolds l.fn.lanes.count l.data (λ rows. Passes l.fn.lanes.count (rows_read_back l.fn.lanes.count l.data) rows l.rows) l.yielded l.row-iterator
