-- `rows::NotesAbove::take_rows` meets its contract. The loop's invariant: the notes before the place are those of the measure, and those above it.
use Prim.Native.Nat.{◌-◌}
use lib.ListN.{length}
use Rattle.definitions.specs.Written.{notes_in}
use Rattle.written.proofs.Making.{Taking}
use Rattle.written.proofs.rows.NotesAbove.take_rows.Given as goal

abbrev pub invariant-loop-self : goal.invariant-loop-self
invariant-loop-self l = Taking (notes_in l.records) l.first l.end l.self l.found

abbrev pub decreases-loop-self : goal.decreases-loop-self
decreases-loop-self l = length l.chunks - l.self.next
