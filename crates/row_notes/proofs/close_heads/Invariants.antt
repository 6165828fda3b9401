-- The loop's invariant: the columns before `column` have no open head, and the notes that are left are the same.
use Rattle.row_notes.proofs.Closing.{Closing}
use Rattle.row_notes.proofs.close_heads.Given as goal

abbrev pub invariant-loop-column : goal.invariant-loop-column
invariant-loop-column l = Closing l.initial.notes l.initial.s l.notes l.s l.column
