-- `dropped::minimise` meets its contract. The loop's invariant: the rows of the measures that were read are counted; with each turn one measure less is left.
use lib.ListN.{length}
use Rattle.measures.specs.Reading.{left}
use Rattle.dropped.proofs.Answering.{RowsRead}
use Rattle.dropped.proofs.minimise.Given as goal

abbrev pub invariant-measures : goal.invariant-measures
invariant-measures l = RowsRead l.fn.given.count l.data l.chart l.text l.rows

abbrev pub decreases-measures : goal.decreases-measures
decreases-measures l = length (left l.chart)
