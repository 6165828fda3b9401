-- The measure that a chart's lines begin with.
use Rattle.std.specs.Prelude.{Bool, true, false, Option, Some, None, List, [], ◌∷◌, All, ℕ, ◌+◌, ◌≤◌, sum_by}
use Rattle.definitions.specs.Lines.{Row}
use Rattle.reader.specs.Marks.{wide, bytes_of}

-- its rows
abbrev pub first_rows : List (Option Row) → List Row
first_rows [] = []
first_rows (None ∷ ms) = []
first_rows (Some r ∷ ms) = r ∷ first_rows ms

-- the lines after it
abbrev pub after_first : List (Option Row) → List (Option Row)
after_first [] = []
after_first (None ∷ ms) = ms
after_first (Some r ∷ ms) = after_first ms

-- whether a `,` line ends it
abbrev pub ends_first : List (Option Row) → Bool
ends_first [] = false
ends_first (None ∷ ms) = true
ends_first (Some r ∷ ms) = ends_first ms

-- the lines' rows have L bytes, and `room` has room for all lines from a place on
pub record Fits (L : ℕ) (lines : List (Option Row)) (room at : ℕ) : Type 0 where
  pub wide_rows : All (wide L) lines
  pub room_for : at + sum_by (bytes_of L) lines ≤ room
