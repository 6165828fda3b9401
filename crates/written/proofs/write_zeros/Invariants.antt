-- `write_zeros` meets its contract. The loop's invariant: so many rows are written.
use mathlib.Core.List.{[]}
use Rattle.written.proofs.Texts.{MeasureFrom}
use Rattle.written.proofs.write_zeros.Given as goal

abbrev pub invariant-loop-row : goal.invariant-loop-row
invariant-loop-row l = MeasureFrom l.lanes.count [] l.initial.text l.at 0 l._row l.end l.text
