-- What the spacing scan keeps of the open measure.
use Rattle.std.specs.Prelude.{◌≡◌, ◌⊎◌, List, ℕ, ◌^◌, ◌≤◌, ◌<◌, nat_le, length}
use Rattle.definitions.specs.Lines.{Row}
use Rattle.definitions.specs.Reduction.{off_zero}
use Rattle.definitions.specs.Figures.{density}
use Rattle.scans.specs.declared.spacing.MeasureSpacing.{MeasureSpacing}

-- The count of its rows and of those with a 1, 2 or 4; and the exponents that its rows allow, but for the row count: those up to `shift`. Once
-- the stride is 1 for good and some row is no step, the steps are counted no further: they are fewer than the rows, as the true count is.
pub record Spaces (s : MeasureSpacing) (cur : List Row) : Type 0 where
  pub rows : s.rows ≡ length cur
  pub steps : (s.steps ≡ density cur) ⊎ ((s.shift ≡ 0) × (s.steps < length cur) × (density cur < length cur))
  pub most : s.shift ≤ 64
  pub shift : (k : ℕ) → k ≤ 64 → off_zero (2 ^ k) 0 cur ≡ nat_le k s.shift
