-- The lines so far are on the page.
use Rattle.sheet_print.specs.Print.{lines_of_held}
use Rattle.page.specs.Prints.{Appends}
use Rattle.sheet_print.proofs.held_lines.Given as goal

abbrev pub invariant-loop-k : goal.invariant-loop-k
invariant-loop-k l = Appends l.initial.page (lines_of_held l.records l.k) l.page
