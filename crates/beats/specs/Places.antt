-- Rows by their place, as the contracts of this crate speak of them.
use Rattle.std.specs.Prelude.{◌≡◌, ℕ, ◌<◌, ◌≤◌, Option, Some, None}
use Rattle.definitions.specs.Sizes.{measures_bound, row_count_bound}
use Rattle.definitions.specs.Objects.{Place}
use Rattle.beats.specs.declared.RowPlace.{RowPlace}

-- Row r of the n rows of measure m. An accepted text, of at most 16,777,215 bytes, keeps these limits: with its byte 10 a row takes
-- 5 bytes or more, and the end of a measure 2.
pub record Inside (m r n : ℕ) : Type 0 where
  pub row : r < n
  pub rows : n < row_count_bound
  pub measure : m ≤ measures_bound

-- the place of the last object row, if there is one
abbrev pub place_of : Option RowPlace → Option Place
place_of None = None
place_of (Some p) = Some (record { m = p.measure; r = p.row; n = p.rows })

-- it is within those limits, if there is one
pub record Placed (o : Option RowPlace) : Type 0 where
  pub inside : (p : RowPlace) → o ≡ Some p → Inside p.measure p.row p.rows
