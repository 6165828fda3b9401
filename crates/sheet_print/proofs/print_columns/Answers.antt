-- The six parts, one after the other.
use Rattle.page.proofs.Pages.{appends_then}
use Rattle.sheet_print.specs.Print.{print_of}
use Rattle.sheet_print.proofs.print_columns.Goals as goal

pub returns : goal.returns
unfolding print_of
returns c =
    appends_then
    (appends_then
    (appends_then
    (appends_then
    (appends_then c.in_ok-head_lines.ensures c.in_ok-tallies.ensures) c.in_ok-density_head.ensures)
    c.in_ok-density_lines.ensures)
    c.in_ok-held_head.ensures)
    c.in_ok-held_lines.ensures
