-- `lines::count_byte` meets its contract: what is counted and the count of the rest make the count of the whole. Assumes nothing.
use Rattle.std.proofs.Common.{◌≡◌, ◌+◌, ◌-◌, ◌≤◌, length, drop}
use Rattle.lines.specs.Search.{count_of}
use Rattle.lines.proofs.count_byte.Given as goal

abbrev pub invariant-loop-i : goal.invariant-loop-i
invariant-loop-i l = (l.i ≤ length l.slice) × (count_of l.needle l.slice ≡ l.n + count_of l.needle (drop l.i l.slice))

abbrev pub decreases-loop-i : goal.decreases-loop-i
decreases-loop-i l = length l.slice - l.i

abbrev pub invariant-loop-i-2 : goal.invariant-loop-i-2
invariant-loop-i-2 l = (l.i ≤ length l.slice) × (count_of l.needle l.slice ≡ l.n + count_of l.needle (drop l.i l.slice))

abbrev pub decreases-loop-i-2 : goal.decreases-loop-i-2
decreases-loop-i-2 l = length l.slice - l.i
