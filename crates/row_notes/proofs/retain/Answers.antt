-- Where no record was dropped, every draft that was written is a note, and its record stays where it is.
use Rattle.row_notes.proofs.Retaining.{retain-all}
use Rattle.row_notes.proofs.retain.Goals as goal

pub returns-else-s : goal.returns-else-s
returns-else-s c = retain-all _ _ _ c.if-s.false
