-- What the private functions of the one pass leave: of a cell, of a row's cells, and of a row.
use Rattle.std.specs.Prelude.{◌≡◌, Option, None, Bool, true, false, List, ℕ, ◌≤◌, ◌<◌, length, slice_index, slice_set, sum, ◌+◌}
use Rattle.definitions.specs.Lists.{some_column}
use Rattle.definitions.specs.Sizes.{count_bound}
use Rattle.definitions.specs.Lines.{Row}
use Rattle.definitions.specs.Cells.{byte_at}
use Rattle.definitions.specs.Tally.{direction, empty_sum}
use Rattle.definitions.specs.declared.Cell.{Cell}
use Rattle.definitions.specs.Tracker.{hold_at}
use Rattle.definitions.specs.Correction.{phantom_step}
use Rattle.definitions.specs.Judged.{judged_sum, judge_row}
use Rattle.definitions.specs.declared.DepthEffect.{DepthEffect}
use Rattle.taps.specs.Taps.{FreeAre}
use Rattle.row_tally.specs.Before.{sum_before}
use Rattle.row_tally.specs.Bounds.{Below}
use Rattle.row_tally.specs.Raised.{with_cells}
use Rattle.row_tally.specs.Sums.{add_by}
use Rattle.judged.specs.Clean.{unpairs}
use Rattle.judged.specs.declared.judged_pass.CleanRows.{CleanRows}

-- some cell of a row leaves a head unpaired, in columns of these depths
unfoldable pub row_unpairs : Row → List ℕ → Bool
row_unpairs row depths = some_column 10 (λ c. unpairs (hold_at (byte_at c row)) (slice_index depths c))

-- the depths after the cells of a row
abbrev pub DepthsPassed : Row → List ℕ → List ℕ → Type 0
DepthsPassed row depths depths' = (c : ℕ) → c < 10 → slice_index depths' c ≡ phantom_step (hold_at (byte_at c row)) (slice_index depths c)

-- The rows so far left every column clean, and the open holds and the columns that have one are those of the depths.
pub record Ready (t : CleanRows) : Type 0 where
  pub ten : length t.depths ≡ 10
  pub low : (c : ℕ) → c < 10 → slice_index t.depths c ≤ 8
  pub active : t.active ≡ sum t.depths
  pub busy : FreeAre t.busy 0 t.depths

-- One row more, judged, with all its heads.
pub record RowPassed (row : Row) (t t' : CleanRows) : Type 0 where
  pub depths : DepthsPassed row t.depths t'.depths
  pub stats : t'.stats ≡ judge_row t.stats true t.active (judged_sum true row)
  pub ready : Ready t'

-- ---- Cell by cell
-- One cell more in a column is counted, and the rest is as it was.
pub record CellCounted (L c : ℕ) (x : Cell) (t t' : CleanRows) : Type 0 where
  pub stats : t'.stats ≡ with_cells t.stats (add_by true empty_sum (direction L c) x)
  pub depths : t'.depths ≡ t.depths
  pub active : t'.active ≡ t.active
  pub busy : t'.busy ≡ t.busy

-- One cell x more in column c of L, where it does e.
pub record CellPassed (L c : ℕ) (e : DepthEffect) (x : Cell) (t t' : CleanRows) : Type 0 where
  pub stats : t'.stats ≡ with_cells t.stats (add_by true empty_sum (direction L c) x)
  pub depths : t'.depths ≡ slice_set t.depths c (phantom_step e (slice_index t.depths c))
  pub ready : Ready t'

-- What is left of t when the cells of a row before column i have passed, none of which leaves a head unpaired.
pub record Passing (row : Row) (i : ℕ) (t t' : CleanRows) : Type 0 where
  pub stats : t'.stats ≡ with_cells t.stats (sum_before true row i)
  pub done : (c : ℕ) → c < i → slice_index t'.depths c ≡ phantom_step (hold_at (byte_at c row)) (slice_index t.depths c)
  pub left : (c : ℕ) → i ≤ c → slice_index t'.depths c ≡ slice_index t.depths c
  pub whole : some_column i (λ c. unpairs (hold_at (byte_at c row)) (slice_index t.depths c)) ≡ false
  pub ready : Ready t'

-- It is left of some t whose counts are low.
pub record Reached (row : Row) (i : ℕ) (t' : CleanRows) : Type 0 where
  pub start : CleanRows
  pub few : Below count_bound start.stats
  pub passing : Passing row i start t'

-- the cells from column i to j pass too
abbrev pub PassingOn : Row → ℕ → ℕ → CleanRows → CleanRows → Type 0
PassingOn row i j t' t'' = (t : CleanRows) → Passing row i t t' → Passing row j t t''

-- where they do not, the row leaves a head unpaired
abbrev pub Unclean : Row → ℕ → CleanRows → Option Unit → Type 0
Unclean row i t' result = result ≡ None → (t : CleanRows) → Passing row i t t' → row_unpairs row t.depths ≡ true

-- ---- The row's end
-- The pass t had so many arrows, so many mines and fakes, and so many open holds.
pub record Before (arrows others held : ℕ) (t : CleanRows) : Type 0 where
  pub arrows_then : arrows ≡ t.stats.total_arrows
  pub others_then : others ≡ t.stats.mines + t.stats.fakes
  pub held_then : held ≡ t.active

-- The cells before column i have passed, of a row before which the pass had these.
pub record Begun (row : Row) (i arrows others held : ℕ) (t' : CleanRows) : Type 0 where
  pub reached : Reached row i t'
  pub ready : Ready reached.start
  pub before : Before arrows others held reached.start

-- all cells of such a row have passed
pub record Ended (arrows others held : ℕ) (t' : CleanRows) : Type 0 where
  pub row : Row
  pub narrow : length row ≤ 10
  pub begun : Begun row (length row) arrows others held t'

-- One row more, none of whose cells leaves a head unpaired.
pub record RowClean (row : Row) (t t' : CleanRows) : Type 0 where
  pub whole : row_unpairs row t.depths ≡ false
  pub passed : RowPassed row t t'

-- with the cells from column i on and the row's end, the row has passed
abbrev pub EndsOn : Row → ℕ → ℕ → ℕ → ℕ → CleanRows → CleanRows → Type 0
EndsOn row i arrows others held t' t'' = (t : CleanRows) → Ready t → Before arrows others held t → Passing row i t t' → RowClean row t t''
