-- One row more: what an ordinary one asks, and what is so after any; and a measure of which some rows are walked.
use Rattle.std.specs.Prelude.{◌≡◌, Bool, if◌then◌else◌, not, List, [], ◌∷◌, ◌++◌, ℕ, ◌+◌, ◌*◌, ◌<◌, ◌≤◌, ◌==◌, length, take}
use Rattle.definitions.specs.Sizes.{count_bound, measures_bound, row_count_bound}
use Rattle.definitions.specs.Lists.{joined}
use Rattle.definitions.specs.Lines.{Row}
use Rattle.definitions.specs.Tally.{row_sum, tally_with_row}
use Rattle.taps.specs.Taps.{mask_of_line, masks}
use Rattle.taps.specs.declared.Taps.TheVariants.{Mask}
use Rattle.row_tally.specs.Bounds.{Below}
use Rattle.row_notes.specs.Written.{MaskReady, MaskWritten}
use Rattle.row_walk.specs.Columns.{Ten}
use Rattle.row_walk.specs.declared.cell_walk.Run.{Run}
use Rattle.measure_tally.specs.declared.Counting.{Counting}
use Rattle.measure_tally.specs.Counted.{Counted, CountsRow}
use Rattle.tap_walk.specs.Noted.{Noting, NotedRows}
use Rattle.tap_walk.specs.Held.{Rest, counting_of, noting_of}

-- what a row of taps asks, and what is then so
pub record TapsReady (r : Run) (mask : ℕ) (wide : Bool) (l : List ℕ) : Type 0 where
  pub few : Below count_bound r.stats
  pub rows : r.row < row_count_bound
  pub fits : mask < masks wide
  pub ready : MaskReady r.row r.count mask l

pub record TapsAdded (r : Run) (mask : ℕ) (l l' : List ℕ) (t : Run) : Type 0 where
  pub columns : t.columns ≡ r.columns
  pub invalid : t.invalid ≡ r.invalid
  pub stats : (cells : Row) → mask_of_line cells ≡ Mask mask → t.stats ≡ tally_with_row r.stats (row_sum cells)
  pub written : MaskWritten r.row r.count mask l t.count l'
  pub row : t.row ≡ r.row + 1
  pub last : t.last ≡ if not (mask == 0) then r.row + 1 else r.last

-- One row more, of any cells: whatever else the walk holds, the row is counted, and noted in a measure before which `first` rows stand.
pub record RowAdded (row : Row) (r : Run) (l : List ℕ) (r' : Run) (l' : List ℕ) : Type 0 where
  pub number : r'.row ≡ r.row + 1
  pub ten : Ten r'.columns
  pub counted : (q : Rest) → CountsRow row (counting_of q r) (counting_of q r')
  pub noted : (q : Rest) (L first : ℕ) (done : List (List Row)) (cur : List Row) → first ≤ r.row → length row ≤ L
      → NotedRows L (noting_of first q r) l done cur → NotedRows L (noting_of first q r') l' done (cur ++ (row ∷ []))

-- The first i rows of the measure ms are counted and noted, and l has room for the notes of all.
pub record Walking (L : ℕ) (c : Counting) (n : Noting) (l : List ℕ) (ms : List Row) (i : ℕ) : Type 0 where
  pub done : List (List Row)
  pub counted : Counted L c done (take i ms)
  pub noted : NotedRows L n l done (take i ms)
  pub few : length (joined done) + length ms < row_count_bound
  pub room : (length (joined done) + length ms) * L * 10 ≤ length l
  pub midx : length done ≤ measures_bound
