-- `chart_pass::read_measures` meets its contract. The loop's invariant: the measures that were read are counted, noted and their beats written; one less is left
-- with each turn.
use mathlib.Core.List.{List}
use lib.ListN.{length}
use Rattle.definitions.specs.Lines.{Row}
use Rattle.measure_walk.specs.Views.{counting}
use Rattle.measures.specs.Reading.{left}
use Rattle.kept_pass.proofs.Keeping.{Keeps}
use Rattle.chart_pass.proofs.Charting.{Charted}
use Rattle.chart_pass.proofs.read_measures.Given as goal

abbrev pub invariant-measures : goal.invariant-measures
invariant-measures l = record {
  done : List (List Row);
  keeps : Keeps l.fn.table.lanes.count l.data l.chart (counting l.walk) l.text l.densities done;
  charted : Charted l.fn.table.lanes.count l.walk l.beats l.slots done;
}

abbrev pub decreases-measures : goal.decreases-measures
decreases-measures l = length (left l.chart)
