-- What one cell does, by its effects on the phantom depth, the object depth and the notes of its column: cited by the walk's own contracts.
use Rattle.std.specs.Prelude.{◌≡◌, false, List, ℕ, ◌+◌, ◌<◌, slice_index, set, nat_lt, if◌then◌else◌}
use Rattle.definitions.specs.Sizes.{count_bound}
use Rattle.definitions.specs.Cells.{hold_effect, object_effect}
use Rattle.definitions.specs.Tracker.{hold_at}
use Rattle.definitions.specs.Tally.{direction, empty_sum}
use Rattle.definitions.specs.Objects.{object_at, is_object, deeper}
use Rattle.definitions.specs.Notes.{effect_of, effect_at}
use Rattle.definitions.specs.declared.ArrowStats.{ArrowStats}
use Rattle.definitions.specs.declared.Cell.{Cell}
use Rattle.definitions.specs.declared.Kind.{Kind}
use Rattle.definitions.specs.declared.DepthEffect.{DepthEffect}
use Rattle.definitions.specs.declared.DepthEffect as depth
use Rattle.definitions.specs.declared.NoteEffect.{NoteEffect}
use Rattle.definitions.specs.declared.NoteEffect.TheVariants.{Nothing, Closes, Single, Head}
use Rattle.phantoms.specs.Phantoms.{Low, with_effect}
use Rattle.row_tally.specs.Bounds.{Below}
use Rattle.row_tally.specs.Sums.{add_by}
use Rattle.row_tally.specs.Raised.{with_cells}
use Rattle.row_notes.specs.Drafts.{step_cell}
use Rattle.row_notes.specs.Writer.{NoteReady, NoteStepped}
use Rattle.row_notes.specs.declared.ChartNotesScratch.{ChartNotesScratch}
use Rattle.row_walk.specs.Columns.{Ten, Free, ColumnReady}
use Rattle.row_walk.specs.declared.cell_walk.Run.{Run}

-- the notes of a run as the struct of the layer beneath
abbrev pub notes_of : Run → ChartNotesScratch
notes_of r = record { hold_heads = r.columns.hold_heads; count = r.count; row_index = r.row; has_invalid = r.invalid }

-- the object depth of a column
abbrev pub object_depth_in : Run → ℕ → ℕ
object_depth_in r c = slice_index r.columns.object_depths c

-- what a cell asks
pub record CellFits (r : Run) (c : ℕ) (l : List ℕ) : Type 0 where
  pub few : Below (count_bound + 9) r.stats
  pub low : Low 4294967294 r.columns.phantoms
  pub object_depth : object_depth_in r c < 4294967295
  pub column : ColumnReady r.columns c
  pub note : NoteReady l (notes_of r) c

-- A cell with these effects has been walked in column c: all but the tally.
pub record CellWalked (h o : DepthEffect) (n : NoteEffect) (c : ℕ) (r : Run) (l : List ℕ) (r' : Run) (l' : List ℕ) : Type 0 where
  pub phantoms : r'.columns.phantoms ≡ with_effect r.columns.phantoms c h
  pub object_depth : r'.columns.object_depths ≡ set r.columns.object_depths c (deeper o (object_depth_in r c))
  pub ten : Ten r'.columns
  pub free : Free r'.columns
  pub last : r'.last ≡ if is_object o (object_depth_in r c) then r.row + 1 else r.last
  pub noted : NoteStepped l (notes_of r) l' (notes_of r') 1 (step_cell r.row c n)

-- the row is an object row where the column has an object depth
abbrev pub object_ended : Run → ℕ → Run
object_ended r c = record r { last = if nat_lt 0 (object_depth_in r c) then r.row + 1 else r.last }

-- the tally with a cell in column c of so many
abbrev pub counted_in : Run → ℕ → ℕ → Cell → ArrowStats
counted_in r L c x = with_cells r.stats (add_by false empty_sum (direction L c) x)

abbrev pub with_cell : Run → ℕ → ℕ → Cell → Run
with_cell r L c x = record r { stats = counted_in r L c x }

abbrev pub Blocking : Kind → ℕ → Run → List ℕ → Run → List ℕ → Type 0
Blocking k = CellWalked depth.TheVariants.Blocks depth.TheVariants.Blocks (Single k)

abbrev pub Lower : Kind → ℕ → Run → List ℕ → Run → List ℕ → Type 0
Lower k = CellWalked depth.TheVariants.Nothing depth.TheVariants.Nothing (Single k)

abbrev pub Opening : Kind → ℕ → Run → List ℕ → Run → List ℕ → Type 0
Opening k = CellWalked depth.TheVariants.Opens depth.TheVariants.Opens (Head k)

abbrev pub Closing : ℕ → Run → List ℕ → Run → List ℕ → Type 0
Closing = CellWalked depth.TheVariants.Closes depth.TheVariants.Closes Closes

abbrev pub Sounding : ℕ → Run → List ℕ → Run → List ℕ → Type 0
Sounding = CellWalked depth.TheVariants.Nothing depth.TheVariants.Blocks Nothing

abbrev pub CellDone : Cell → ℕ → Run → List ℕ → Run → List ℕ → Type 0
CellDone x = CellWalked (hold_effect x) (object_effect x) (effect_of x)

abbrev pub ByteWalked : ℕ → ℕ → Run → List ℕ → Run → List ℕ → Type 0
ByteWalked b = CellWalked (hold_at b) (object_at b) (effect_at b)
