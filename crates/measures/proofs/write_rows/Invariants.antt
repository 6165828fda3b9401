-- `measures::write_rows` meets its contract. The loop's invariant: the lines that are left make of the text what all of them make of it.
use mathlib.Core.Path.{◌≡◌}
use lib.ListN.{length}
use Rattle.measures.specs.Lines.{Fits}
use Rattle.measures.proofs.Writing.{outcome}
use Rattle.measures.proofs.write_rows.Given as goal

abbrev pub invariant-rows : goal.invariant-rows
invariant-rows l = record {
  made : outcome l.fn.form l.fn.lanes.count l.lines l.text l.out ≡ outcome l.fn.form l.fn.lanes.count l.fn.lines l.fn.text l.fn.start;
  fits : Fits l.fn.lanes.count l.lines (length l.text) l.out;
}
