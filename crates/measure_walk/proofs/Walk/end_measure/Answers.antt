-- `measure_walk::Walk::end_measure` meets its contract: the rows counted are the same, and no row of the next measure is among them.
use mathlib.Core.Path.{refl}
use Rattle.measure_tally.proofs.Rows.{counted-measure}
use Rattle.measure_walk.proofs.Walk.end_measure.Goals as goal

pub returns : goal.returns
returns c = record { counted = λ L done cur x. counted-measure L _ done cur x; noting_stays = refl; columns_stay = refl }
