-- `timing::timing_figures` meets its contract. The loop's invariant: the rows, beats and heads are those of the measures that were read; one less is left with each turn.
use mathlib.Core.Path.{◌≡◌}
use lib.ListN.{length}
use Rattle.measures.specs.Reading.{left}
use Rattle.timing.proofs.Timed.{Timed}
use Rattle.timing.proofs.timing_figures.Given as goal

abbrev pub invariant-measures : goal.invariant-measures
invariant-measures l = record {
  timed : Timed l.fn.lanes.count l.data l.chart l.text l.beats l.rows l.heads;
  same_text : length l.text ≡ length l.fn.text;
}

abbrev pub decreases-measures : goal.decreases-measures
decreases-measures l = length (left l.chart)
