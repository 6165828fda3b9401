-- `measure_tally::Counting::count_taps` meets its contract: the row's sum is added, and free taps leave the phantom depths.
use Rattle.phantoms.proofs.Free.{free-row}
use Rattle.measure_tally.proofs.Rows.{counted-row}
use Rattle.measure_tally.proofs.Counting.count_taps.Goals as goal

pub returns : goal.returns
returns c row free =
    λ L done cur w v x. counted-row L _ done cur x row w v _ _ _ (c.count_taps.ensures row free.mask) (free-row _ _ row _ free x.free) x.free x.few.ten
