-- The three lists and what stands between them, one after the other.
use Rattle.page.proofs.Pages.{appends_then}
use Rattle.sheet_json.specs.Json.{json_lists}
use Rattle.sheet_json.proofs.lists.Goals as goal

pub returns : goal.returns
unfolding json_lists
returns c =
    appends_then
    (appends_then
    (appends_then
    (appends_then
    (appends_then
    (appends_then c.in_ok-text.ensures c.in_ok-density_entries.ensures) c.in_ok-text-2.ensures)
    c.in_ok-spacing_entries.ensures)
    c.in_ok-text-3.ensures)
    c.in_ok-record_entries.ensures)
    c.in_ok-text-4.ensures
