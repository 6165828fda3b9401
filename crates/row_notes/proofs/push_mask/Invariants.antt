-- The loop's invariant: whatever struct and cells the mask is of, the taps of the row that are not written yet are the bits of `left`.
use Rattle.definitions.specs.Lines.{Row}
use Rattle.row_notes.specs.Written.{MaskFits}
use Rattle.row_notes.specs.declared.ChartNotesScratch.{ChartNotesScratch}
use Rattle.row_notes.proofs.Masks.{Taken}
use Rattle.row_notes.proofs.push_mask.Given as goal

abbrev pub invariant-loop-left : goal.invariant-loop-left
invariant-loop-left l =
    (s : ChartNotesScratch) (cells : Row) → MaskFits l.row l.number l.mask l.fn.notes s cells → Taken l.fn.notes s cells l.mask l.notes l.count l.left

abbrev pub decreases-loop-left : goal.decreases-loop-left
decreases-loop-left l = l.left
