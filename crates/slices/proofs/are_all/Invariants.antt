-- Where no difference was met, each place before this one has `it`, in both halves.
use Rattle.std.proofs.Common.{◌≡◌, ℕ, ◌<◌, ◌+◌, get_or}
use Rattle.slices.proofs.are_all.Given as goal

abbrev pub invariant-loop-i : goal.invariant-loop-i
invariant-loop-i g l = g.T.Bits.none l.met → (k : ℕ) → k < l.i → (get_or l.part k l.it ≡ l.it) × (get_or l.part (l.after + k) l.it ≡ l.it)
