-- Specification, Timing rows.
use Rattle.std.specs.Prelude.{Bool, false, ◌||◌, List, [], ◌∷◌, ℕ}
use Rattle.definitions.specs.Lists.{joined}
use Rattle.definitions.specs.Reduction.{minimised}
use Rattle.definitions.specs.Tracker.{hold_at}
use Rattle.definitions.specs.Correction.{is_opening}

-- "The timing rows are all minimised rows of a chart, L bytes each, back to back."
unfoldable pub timing_rows : ℕ → List ℕ → List ℕ
timing_rows L text = joined (joined (minimised L text))

-- some of these bytes is a 2 or 4
abbrev pub has_some_head : List ℕ → Bool
has_some_head [] = false
has_some_head (b ∷ s) = is_opening (hold_at b) || has_some_head s

-- "The heads figure says whether any of them has a 2 or 4."
unfoldable pub timing_heads : ℕ → List ℕ → Bool
timing_heads L text = has_some_head (timing_rows L text)
