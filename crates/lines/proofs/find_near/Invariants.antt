-- `lines::find_near` meets its contract: what the search of the rest finds is what the search of the whole finds. Assumes nothing.
use Rattle.std.proofs.Common.{◌≡◌, ◌-◌, ◌≤◌, drop}
use Rattle.lines.proofs.Search.{find_from}
use Rattle.lines.proofs.find_near.Given as goal

abbrev pub invariant-loop-place : goal.invariant-loop-place
invariant-loop-place l = (l.place ≤ l.near) × (find_from l.needle 0 l.slice ≡ find_from l.needle l.place (drop l.place l.slice))

abbrev pub decreases-loop-place : goal.decreases-loop-place
decreases-loop-place l = l.near - l.place
