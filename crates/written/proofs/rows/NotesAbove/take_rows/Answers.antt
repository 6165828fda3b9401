-- `rows::NotesAbove::take_rows` meets its contract. The loop's invariant: the notes before the place are those of the measure, and those above it.
use mathlib.Core.Path.{refl, ap, sym, ◌∙◌}
use mathlib.Core.Bool.{◌||◌}
use Rattle.std.proofs.Common.{set}
use Rattle.written.specs.Standing.{note_in_second}
use native.Mathlib.Omega.{arith}
use Rattle.definitions.specs.Written.{notes_in}
use Rattle.note_records.proofs.Kept.{chunk-kept, chunk-note, past-chunks}
use Rattle.written.proofs.Held.{made-all, made-before, sorted}
use Rattle.written.proofs.Making.{take-start, take-next-note, take-past, take-all-past, take-standing, take-seen}
use Rattle.written.proofs.rows.NotesAbove.take_rows.Goals.{then-found, else-found}
use Rattle.written.proofs.rows.NotesAbove.take_rows.Goals as goal

pub loop-self-init : goal.loop-self-init
loop-self-init c =
    take-start c.requires.standing (search arith) c.requires.after c.requires.few (made-before c.requires.apart.rising.limited c.args.self.now.next) _ c.tail_in_second-found.ensures

pub limited_note-note-requires : goal.limited_note-note-requires
limited_note-note-requires c = chunk-kept c.requires.apart.rising.limited c.as_chunks.ensures.front _ c.loop-self-test.true

pub returns-then-end-note-clause-value : goal.returns-then-end-note-clause-value
returns-then-end-note-clause-value c =
    let k = c.requires.apart.rising.limited in
    let note = chunk-note k c.as_chunks.ensures.front _ c.loop-self-test.true _ c.limited_note-note.ensures in
    take-seen c.loop-self.invariant (made-all k) (take-past c.loop-self.invariant (sorted c.requires.apart) _ note c.if-end-note.true)

pub returns-then-end-note-clause-standing : goal.returns-then-end-note-clause-standing
returns-then-end-note-clause-standing c =
    let k = c.requires.apart.rising.limited in
    let note = chunk-note k c.as_chunks.ensures.front _ c.loop-self-test.true _ c.limited_note-note.ensures in
    take-standing c.loop-self.invariant (made-all k) (take-past c.loop-self.invariant (sorted c.requires.apart) _ note c.if-end-note.true)

pub bounds-self-note : goal.bounds-self-note
bounds-self-note c = (chunk-note c.requires.apart.rising.limited c.as_chunks.ensures.front _ c.loop-self-test.true _ c.limited_note-note.ensures).made.column

pub loop-self-preserved : goal.loop-self-preserved
loop-self-preserved c =
    let k = c.requires.apart.rising.limited in
    let n = c.limited_note-note.result in
    let note = chunk-note k c.as_chunks.ensures.front _ c.loop-self-test.true _ c.limited_note-note.ensures in
    take-next-note c.loop-self.invariant (sorted c.requires.apart) _ note c.if-end-note.false (made-before k c.loop-self.self.next) _ refl
    (ap (set c.loop-self.self.tails n.column) c.tail_row.ensures) _
    (elim c.if-found.branch [
      | then-found w ↦ w.found-is ∙ w.if-found.true ∙ sym (ap (λ b. b || note_in_second c.args.first c.args.end n) w.if-found.true)
      | else-found w ↦ w.found-is ∙ w.in_second-found.ensures ∙ sym (ap (λ b. b || note_in_second c.args.first c.args.end n) w.if-found.false)
    ])

pub returns-clause-value : goal.returns-clause-value
returns-clause-value c =
    let k = c.requires.apart.rising.limited in
    take-seen c.loop-self.invariant (made-all k) (take-all-past (notes_in c.args.records.now) c.args.end c.loop-self.self.next (past-chunks k c.as_chunks.ensures.front c.loop-self-test.false))

pub returns-clause-standing : goal.returns-clause-standing
returns-clause-standing c =
    let k = c.requires.apart.rising.limited in
    take-standing c.loop-self.invariant (made-all k) (take-all-past (notes_in c.args.records.now) c.args.end c.loop-self.self.next (past-chunks k c.as_chunks.ensures.front c.loop-self-test.false))
