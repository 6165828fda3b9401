-- The lines so far are on the page.
use Rattle.sheet_print.specs.Print.{first_fields}
use Rattle.page.specs.Prints.{Appends}
use Rattle.sheet_print.proofs.tally_lines.Given as goal

abbrev pub invariant-loop-i : goal.invariant-loop-i
invariant-loop-i l = Appends l.initial.page (first_fields l.figures l.i) l.page
