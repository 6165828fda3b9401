-- Specification, Tally: the six directions of every tally. `directions-sum` in proofs/Directions.antt proves it.
use Rattle.std.specs.Prelude.{◌≡◌, List, ℕ, ◌+◌}
use Rattle.definitions.specs.ReadBack.{main_tally, kept_tally}
use Rattle.definitions.specs.Judged.{judged_tally, flagged_tally}
use Rattle.definitions.specs.declared.ArrowStats.{ArrowStats}

-- "the arrows of the six directions together are `total_arrows`"
abbrev pub SumOfDirections : ArrowStats → Type 0
SumOfDirections t = t.left + t.down + t.up + t.right + t.up_left + t.up_right ≡ t.total_arrows

-- "In every tally of every text the arrows of the six directions together are `total_arrows`."
pub record DirectionsSum (L : ℕ) (text flags : List ℕ) : Type 0 where
  pub main : SumOfDirections (main_tally L text)
  pub kept : SumOfDirections (kept_tally L text)
  pub judged : SumOfDirections (judged_tally L text)
  pub flagged : SumOfDirections (flagged_tally L flags text)
