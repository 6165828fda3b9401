-- `write_notes` meets its contract. The loop's invariant: the notes before are put.
use Rattle.definitions.specs.Written.{notes_in}
use Rattle.note_records.proofs.Kept.{chunk-kept, chunk-note, past-chunks}
use Rattle.written.proofs.Held.{sorted, made-before}
use Rattle.written.proofs.Putting.{notes-start, next-after, next-reach, notes-next, notes-end, note-column, note-within}
use Rattle.written.proofs.write_notes.Goals as goal

pub loop-bytes-init : goal.loop-bytes-init
loop-bytes-init c = notes-start (notes_in c.args.records.now) (c.new-place.ensures.stands c.args.lanes.count c.args.counts.now) c.new-place.ensures.first c.requires.zeros

pub limited_note-requires : goal.limited_note-requires
limited_note-requires c = chunk-kept c.requires.apart.rising.limited c.as_chunks.ensures.front _ c.loop-bytes-test.true

pub put_note-place-requires-clause-after : goal.put_note-place-requires-clause-after
put_note-place-requires-clause-after c = next-after c.loop-bytes.invariant _ (chunk-note c.requires.apart.rising.limited c.as_chunks.ensures.front _ c.loop-bytes-test.true _ c.limited_note.ensures)

pub put_note-place-requires-clause-tail_after : goal.put_note-place-requires-clause-tail_after
put_note-place-requires-clause-tail_after c = next-reach c.loop-bytes.invariant _ (chunk-note c.requires.apart.rising.limited c.as_chunks.ensures.front _ c.loop-bytes-test.true _ c.limited_note.ensures)

pub put_note-place-requires-clause-column : goal.put_note-place-requires-clause-column
put_note-place-requires-clause-column c = note-column c.requires.apart _ _ (chunk-note c.requires.apart.rising.limited c.as_chunks.ensures.front _ c.loop-bytes-test.true _ c.limited_note.ensures)

pub put_note-place-requires-clause-row_below : goal.put_note-place-requires-clause-row_below
put_note-place-requires-clause-row_below c = note-within c.args.lanes.count (notes_in c.args.records.now) c.args.counts.now c.requires.counts.counted _ _ (chunk-note c.requires.apart.rising.limited c.as_chunks.ensures.front _ c.loop-bytes-test.true _ c.limited_note.ensures)

pub loop-bytes-preserved : goal.loop-bytes-preserved
loop-bytes-preserved c =
    let note = chunk-note c.requires.apart.rising.limited c.as_chunks.ensures.front _ c.loop-bytes-test.true _ c.limited_note.ensures in
    notes-next c.loop-bytes.invariant _ note (sorted c.requires.apart) (made-before c.requires.apart.rising.limited _) (note-column c.requires.apart _ _ note)
    (note-within c.args.lanes.count (notes_in c.args.records.now) c.args.counts.now c.requires.counts.counted _ _ note)
    _ c.put_note-place.ensures.place _ c.put_note-place.ensures.written

pub returns-clause-written : goal.returns-clause-written
returns-clause-written c = notes-end c.loop-bytes.invariant (past-chunks c.requires.apart.rising.limited c.as_chunks.ensures.front c.loop-bytes-test.false)
