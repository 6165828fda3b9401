-- `presses::reach` meets its contract. The loop's invariant: the notes that were passed stand before the press.
use Rattle.std.proofs.Common.{◌≡◌, ◌-◌, length}
use Rattle.presses.specs.Reached.{left_from, past}
use Rattle.presses.proofs.reach.Given as goal

abbrev pub invariant-loop-k : goal.invariant-loop-k
invariant-loop-k l = past l.press (left_from l.records l.from) ≡ past l.press (left_from l.records l.k)

abbrev pub decreases-loop-k : goal.decreases-loop-k
decreases-loop-k l = length l.chunks - l.k
