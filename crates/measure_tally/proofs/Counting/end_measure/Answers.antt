-- `measure_tally::Counting::end_measure` meets its contract: the rows counted are the same, and no row of the next measure is among them.
use Rattle.measure_tally.proofs.Rows.{counted-measure}
use Rattle.measure_tally.proofs.Counting.end_measure.Goals as goal

pub returns : goal.returns
returns c = λ L done cur x. counted-measure L _ done cur x
