-- `write_notes` meets its contract. The loop's invariant: the notes before are put.
use Rattle.definitions.specs.Written.{notes_in}
use Rattle.written.proofs.Putting.{NotesFrom}
use Rattle.written.proofs.write_notes.Given as goal

abbrev pub invariant-loop-bytes : goal.invariant-loop-bytes
invariant-loop-bytes l = NotesFrom l.lanes.count (notes_in l.records) l.counts l.initial.text l.bytes-index l.place l.text
