-- `notes_to_chart` meets its contract.
use mathlib.Core.Path.{ap, sym, ◌∙◌}
use mathlib.Core.Bool.{not}
use Rattle.definitions.specs.Written.{notes_in}
use Rattle.written.proofs.Answer.{not-refused, some-counts, answer-is}
use Rattle.written.proofs.notes_to_chart.Goals as goal

pub write_rows-end-requires-clause-some_count : goal.write_rows-end-requires-clause-some_count
write_rows-end-requires-clause-some_count c =
    some-counts c.known-columns.result.count (notes_in c.args.records.now) c.args.counts.now (not-refused _ _ (sym c.counts_of_notes.ensures ∙ c.in_ok-counts_of_notes.was))

pub returns-clause-value : goal.returns-clause-value
returns-clause-value c =
    let found = c.in_ok-walked.ensures.found in
    answer-is c.args.lanes c.known-columns.result.count c.args.records.now c.args.counts.now c.args.text.now c.in_ok-size.size.bytes c.in_ok-size.size.rows
    (c.known-columns.ensures ∙ c.in_ok-of_number.ensures.count) c.in_ok-of_number.ensures.accepted c.in_ok-size.ensures.accepted
    (not-refused _ _ (sym c.records_whole.ensures ∙ c.in_ok-records_whole.was))
    c.in_ok-walked.ensures.accepted
    (found.in_order ∙ ap not c.if-not-walked.false)
    (found.apart c.if-not-walked.false ∙ ap not c.if-not-walked-2.false)
    (not-refused _ _ (sym c.counts_of_notes.ensures ∙ c.in_ok-counts_of_notes.was))
    c.in_ok-room_for_text.ensures.ok c.in_ok-size.ensures.bytes c.in_ok-size.ensures.rows
