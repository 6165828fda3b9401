-- Specification, Lanes: which lane numbers are lane counts, and the bound R on the rows of a text. "What is shown at 4, 5, 6, 8 and 10 lanes is shown for L."
use Rattle.std.specs.Prelude.{Bool, [], ◌∷◌, ℕ, ◌+◌, ◌/◌}
use Rattle.definitions.specs.Lists.{among}

-- "L, the lane count, is the caller's lane number, which is 4, 5, 6, 8 or 10"
unfoldable pub is_lane_count : ℕ → Bool
is_lane_count n = among n (4 ∷ 5 ∷ 6 ∷ 8 ∷ 10 ∷ [])

-- "R is (len + 1) div (L + 1), and no text has more rows."
unfoldable pub most_rows_in : ℕ → ℕ → ℕ
most_rows_in L len = (len + 1) / (L + 1)
