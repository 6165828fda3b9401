-- Up to this part the slice is what it is to become.
use Rattle.std.proofs.Common.{length, ◌-◌}
use Rattle.slices.proofs.Zeroed.{ZeroedTo}
use Rattle.slices.proofs.zero_past.Given as goal

abbrev pub invariant-loop-at : goal.invariant-loop-at
invariant-loop-at g l = ZeroedTo l.zero l.initial.s l.s l.from l.at

abbrev pub decreases-loop-at : goal.decreases-loop-at
decreases-loop-at g l = length l.initial.s - l.at
