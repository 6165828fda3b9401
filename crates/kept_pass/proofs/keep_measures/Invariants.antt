-- `kept_pass::keep_measures` meets its contract. The loop's invariant: what is counted and stored is of the measures that were read; one less is left with each turn.
use lib.ListN.{length}
use Rattle.measures.specs.Reading.{left}
use Rattle.kept_pass.proofs.Keeping.{KeepsSome}
use Rattle.kept_pass.proofs.keep_measures.Given as goal

abbrev pub invariant-measures : goal.invariant-measures
invariant-measures l = KeepsSome l.fn.table.lanes.count l.data l.chart l.counting l.text l.densities

abbrev pub decreases-measures : goal.decreases-measures
decreases-measures l = length (left l.chart)
