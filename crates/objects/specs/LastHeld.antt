-- What is held of the last object row: `done` are the measures that have ended, `cur` the rows of the open one.
use Rattle.std.specs.Prelude.{◌≡◌, List, [], ◌∷◌, ℕ, suc, ◌+◌, ◌<◌, length, Bool, Option, Some, None, if◌then◌else◌}
use Rattle.definitions.specs.Lists.{joined}
use Rattle.definitions.specs.Lines.{Row}
use Rattle.definitions.specs.Objects.{Depths, after_row, after_rows, object_row, objects_from, last_of}
use Rattle.taps.specs.Taps.{FreeAre}
use Rattle.beats.specs.Places.{place_of, Placed}
use Rattle.objects.specs.Rows.{DepthsHeld, DepthsLow}
use Rattle.objects.specs.declared.LastScan.{LastScan}

-- the last object row among rows numbered from r, or else o
abbrev pub row_last : Depths → ℕ → Option ℕ → List Row → Option ℕ
row_last D r o [] = o
row_last D r o (x ∷ xs) = row_last (after_row D x) (suc r) (if object_row D x then Some r else o) xs

-- the depths before the open measure
abbrev pub depths_after : List (List Row) → Depths
depths_after done = after_rows (λ c. 0) (joined done)

pub record LastHeld (s : LastScan) (done : List (List Row)) (cur : List Row) : Type 0 where
  pub depths : DepthsHeld (after_rows (depths_after done) cur) s.depths
  pub low : DepthsLow (length (joined done) + length cur) s.depths
  pub found : place_of s.found ≡ last_of (objects_from (λ c. 0) 0 done)
  pub placed : Placed s.found
  pub row : s.row ≡ row_last (depths_after done) 0 None cur
  pub inside : (r : ℕ) → s.row ≡ Some r → r < length cur
  pub rows : s.rows ≡ length cur
  pub midx : s.midx ≡ length done
  pub free : FreeAre s.busy 0 s.depths.depths

-- one row more, an object row or not
abbrev pub counted : LastScan → Bool → LastScan
counted s object = record s { row = if object then Some s.rows else s.row; rows = s.rows + 1 }
