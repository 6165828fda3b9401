-- A row that is walked by its cells.
use Rattle.std.specs.Prelude.{◌≡◌, Bool, if◌then◌else◌, List, [], ◌∷◌, ◌++◌, ℕ, ◌+◌, length, slice_index}
use Rattle.definitions.specs.Sizes.{count_bound}
use Rattle.definitions.specs.Lines.{Row}
use Rattle.definitions.specs.Cells.{cell_of}
use Rattle.definitions.specs.Tally.{row_sum, tally_with_row}
use Rattle.phantoms.specs.Phantoms.{Low, RowCounted}
use Rattle.objects.specs.declared.Depths.{Depths}
use Rattle.objects.specs.Rows.{DepthsLow, RowDone}
use Rattle.row_tally.specs.Bounds.{Below}
use Rattle.row_notes.specs.Written.{Written, RecordRoom}
use Rattle.row_walk.specs.Columns.{Ten, Free}
use Rattle.row_walk.specs.Cells.{notes_of, ByteWalked, counted_in}
use Rattle.row_walk.specs.declared.cell_walk.Run.{Run}

-- the object depths of a run as the struct of the layer beneath
abbrev pub objects_of : Run → Depths
objects_of r = record { depths = r.columns.object_depths }

-- what a row asks
pub record CellsReady (row : Row) (r : Run) (l : List ℕ) : Type 0 where
  pub few : Below count_bound r.stats
  pub ten : Ten r.columns
  pub free : Free r.columns
  pub phantoms : Low count_bound r.columns.phantoms
  pub objects : DepthsLow 4294967294 (objects_of r)
  pub room : RecordRoom (notes_of r) row l

-- The row's cells are done: it is counted, tested for an object and noted.
pub record RowWalked (row : Row) (r : Run) (l : List ℕ) (r' : Run) (l' : List ℕ) : Type 0 where
  pub object : Bool
  pub stats : r'.stats ≡ tally_with_row r.stats (row_sum row)
  pub counted : RowCounted row r.columns.phantoms r'.columns.phantoms
  pub tested : RowDone row (objects_of r) (record { object = object; depths = objects_of r' })
  pub last : r'.last ≡ if object then r.row + 1 else r.last
  pub written : (rows : List Row) → Written rows (notes_of r) l → Written (rows ++ (row ∷ [])) (notes_of r') l'
  pub number : r'.row ≡ r.row + 1
  pub ten : Ten r'.columns
  pub free : Free r'.columns

-- ---- For the private functions

-- the byte in column c of a row
pub record ColumnWalked (row : Row) (c : ℕ) (r : Run) (l : List ℕ) (r' : Run) (l' : List ℕ) : Type 0 where
  pub walked : ByteWalked (slice_index row c) c r l r' l'
  pub counted : r'.stats ≡ counted_in r (length row) c (cell_of (slice_index row c))
  pub size : length l' ≡ length l

-- The cells before a column are walked, one after the other, from the run r₀ with the slots l₀ on.
pub data CellsWalked (row : Row) (r₀ : Run) (l₀ : List ℕ) : ℕ → Run → List ℕ → Type 0 where
  none : CellsWalked row r₀ l₀ 0 r₀ l₀
  more : {c : ℕ} {r : Run} {l : List ℕ} {r' : Run} {l' : List ℕ} → CellsWalked row r₀ l₀ c r l → ColumnWalked row c r l r' l' → CellsWalked row r₀ l₀ (c + 1) r' l'

-- those before column c of a row that was ready
pub record Reached (row : Row) (c : ℕ) (r : Run) (l : List ℕ) : Type 0 where
  pub start : Run
  pub slots : List ℕ
  pub ready : CellsReady row start slots
  pub walked : CellsWalked row start slots c r l

-- whatever start r and l are the state after the cells before column c of, r' and l' are that after those before column c'
abbrev pub WalkedOn : Row → ℕ → Run → List ℕ → ℕ → Run → List ℕ → Type 0
WalkedOn row c r l c' r' l' = (r₀ : Run) (l₀ : List ℕ) → CellsWalked row r₀ l₀ c r l → CellsWalked row r₀ l₀ c' r' l'
