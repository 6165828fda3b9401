-- The lines so far are on the page.
use Rattle.sheet.specs.Sheet.{lines_of_records}
use Rattle.page.specs.Prints.{Appends}
use Rattle.sheet.proofs.record_lines.Given as goal

abbrev pub invariant-loop-k : goal.invariant-loop-k
invariant-loop-k l = Appends l.initial.page (lines_of_records l.records l.k) l.page
