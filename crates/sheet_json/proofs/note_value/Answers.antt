-- The parts of a note, one after the other.
use Rattle.std.proofs.Common.{sym}
use Rattle.page.proofs.Pages.{appends_then}
use Rattle.sheet_json.specs.Json.{value_of_note}
use Rattle.sheet_json.proofs.note_value.Goals as goal

pub returns : goal.returns
unfolding value_of_note
returns c =
    rw (sym c.kind_number.ensures)
    (appends_then
    (appends_then
    (appends_then
    (appends_then
    (appends_then c.in_ok-text.ensures c.in_ok-field.ensures) c.in_ok-field-2.ensures)
    c.in_ok-field-3.ensures)
    c.in_ok-tail_value.ensures)
    c.in_ok-text-2.ensures)
