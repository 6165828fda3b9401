-- `objects::LastScan::add_row` meets its contract.
use Rattle.taps.proofs.Free.{free-told}
use Rattle.objects.proofs.Free.{free-done}
use Rattle.objects.proofs.LastHeld.{held-row}
use Rattle.objects.proofs.LastScan.add_row.Goals as goal

pub returns-in-Mask : goal.returns-in-Mask
returns-in-Mask c =
    λ done cur x. rw c.count_row.ensures (held-row _ done cur x _ _ (free-done _ _ _ _ (free-told c.free_taps.ensures c.in-Mask.is) x.free) _ x.free)
