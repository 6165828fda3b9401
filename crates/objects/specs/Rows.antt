-- The depths of the last beat in a struct of ten numbers, and what the object row's test leaves there.
use Rattle.std.specs.Prelude.{◌≡◌, Bool, ℕ, ◌+◌, ◌<◌, ◌≤◌, slice_index}
use Rattle.definitions.specs.Lines.{Row}
use Rattle.definitions.specs.Objects.{after_row, object_row}
use Rattle.definitions.specs.Objects as objects
use Rattle.objects.specs.declared.Depths.{Depths}

-- the depth of a column
abbrev pub depth_at : Depths → ℕ → ℕ
depth_at s c = slice_index s.depths c

-- the struct holds these depths
abbrev pub DepthsHeld : objects.Depths → Depths → Type 0
DepthsHeld D s = (c : ℕ) → c < 10 → depth_at s c ≡ D c

-- no depth is over k
abbrev pub DepthsLow : ℕ → Depths → Type 0
DepthsLow k s = (c : ℕ) → c < 10 → depth_at s c ≤ k

-- Before the first row every depth is 0.
pub record NoDepths (r : Depths) : Type 0 where
  pub none : DepthsHeld (λ c. 0) r
  pub low : DepthsLow 0 r

-- Whether a row is an object row, and the depths after it.
pub record Objects : Type 0 where
  pub object : Bool
  pub depths : Depths

-- A row: whatever depths the struct held, the answer is of those, and the struct then holds the depths after the row. Each depth grows by
-- at most 1.
pub record RowDone (row : Row) (s : Depths) (r : Objects) : Type 0 where
  pub object : (D : objects.Depths) → DepthsHeld D s → r.object ≡ object_row D row
  pub depths : (D : objects.Depths) → DepthsHeld D s → DepthsHeld (after_row D row) r.depths
  pub low : (k : ℕ) → DepthsLow k s → DepthsLow (k + 1) r.depths
