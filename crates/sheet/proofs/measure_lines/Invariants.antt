-- The lines so far are on the page.
use Rattle.sheet.specs.Sheet.{lines_of_measures}
use Rattle.page.specs.Prints.{Appends}
use Rattle.sheet.proofs.measure_lines.Given as goal

abbrev pub invariant-loop-k : goal.invariant-loop-k
invariant-loop-k l = Appends l.initial.page (lines_of_measures l.densities l.spacing l.k) l.page
