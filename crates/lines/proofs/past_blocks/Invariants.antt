-- `lines::past_blocks` meets its contract: what the search of what is left finds is what the search from the first place on finds. Assumes nothing.
use Rattle.std.proofs.Common.{◌≡◌, ◌-◌, ◌≤◌, length, drop}
use Rattle.std.specs.Prelude.{◌==◌}
use Rattle.std.specs.List.{position_from}
use Rattle.lines.proofs.past_blocks.Given as goal

abbrev pub invariant-loop-i : goal.invariant-loop-i
invariant-loop-i l =
    (l.i ≤ length l.slice) × (position_from (λ x. x == l.needle) l.from (drop l.from l.slice) ≡ position_from (λ x. x == l.needle) l.i (drop l.i l.slice))

abbrev pub decreases-loop-i : goal.decreases-loop-i
decreases-loop-i l = length l.slice - l.i
