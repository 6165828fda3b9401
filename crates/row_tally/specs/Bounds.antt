-- How large the counts of a row's sum and of a tally are, so that none overflows.
use Rattle.std.specs.Prelude.{ℕ, ◌+◌, ◌≤◌, List, [], ◌∷◌}
use Rattle.definitions.specs.Tally.{sum_counts, tally_figures}
use Rattle.definitions.specs.declared.RowSum.{RowSum}
use Rattle.definitions.specs.declared.ArrowStats.{ArrowStats}

-- each of these is at most k
abbrev pub AtMost : ℕ → List ℕ → Type 0
AtMost k [] = Unit {0}
AtMost k (n ∷ ns) = (n ≤ k) × AtMost k ns

-- Each count of a row's sum is at most k, and so are its heads together.
pub record Under (k : ℕ) (s : RowSum) : Type 0 where
  pub counts : AtMost k (sum_counts s)
  pub heads : s.holds + s.rolls ≤ k

-- Each count of a tally is at most k.
abbrev pub Below : ℕ → ArrowStats → Type 0
Below k t = AtMost k (tally_figures t)

-- So is each count of a tally that a row's end raises, and not its cells.
abbrev pub EndsBelow : ℕ → ArrowStats → Type 0
EndsBelow k t = AtMost k (t.total_steps ∷ t.jumps ∷ t.hands ∷ t.holding ∷ [])
