-- `row_notes::put_note` meets its contract: the record that it adds has the cell's row, column and kind.
use Rattle.std.proofs.Common.{refl}
use Rattle.row_notes.proofs.put_note.Goals as goal

pub returns : goal.returns
returns c = rw (c.put_record.ensures, c.end_note.ensures, c.kind_number.ensures) refl
