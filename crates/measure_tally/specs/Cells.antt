-- What the cells of a row do to what is counted, before the row's end: cited by private functions alone.
use Rattle.std.specs.Prelude.{◌≡◌, ℕ, ◌+◌, false, length, slice_index}
use Rattle.definitions.specs.Sizes.{count_bound}
use Rattle.definitions.specs.Lines.{Row}
use Rattle.definitions.specs.Cells.{cell_of}
use Rattle.definitions.specs.Tracker.{hold_at}
use Rattle.definitions.specs.Tally.{direction, empty_sum}
use Rattle.definitions.specs.declared.Cell.{Cell}
use Rattle.definitions.specs.declared.DepthEffect.{DepthEffect}
use Rattle.phantoms.specs.Phantoms.{Low, with_effect}
use Rattle.row_tally.specs.Bounds.{Below}
use Rattle.row_tally.specs.Sums.{add_by}
use Rattle.row_tally.specs.Raised.{with_cells}
use Rattle.taps.specs.Taps.{FreeAre}
use Rattle.measure_tally.specs.declared.Counting.{Counting}

-- A column without its bit has the phantom depth 0, if it was so before.
abbrev pub StaysFree : Counting → Counting → Type 0
StaysFree k r = FreeAre k.busy 0 k.phantoms.depths → FreeAre r.busy 0 r.phantoms.depths

-- A cell of this effect in column c, which is not in the tally yet.
pub record EffectDone (c : ℕ) (e : DepthEffect) (k r : Counting) : Type 0 where
  pub phantoms : r.phantoms ≡ with_effect k.phantoms c e
  pub stats : r.stats ≡ k.stats
  pub rows : r.rows ≡ k.rows
  pub before : r.before ≡ k.before
  pub free : StaysFree k r

-- the tally with a cell in column c of so many
abbrev pub with_cell : Counting → ℕ → ℕ → Cell → Counting
with_cell k columns c x = record k { stats = with_cells k.stats (add_by false empty_sum (direction columns c) x) }

-- A byte in column c of so many.
pub record CellCounted (columns c b : ℕ) (k r : Counting) : Type 0 where
  pub phantoms : r.phantoms ≡ with_effect k.phantoms c (hold_at b)
  pub stats : r.stats ≡ with_cells k.stats (add_by false empty_sum (direction columns c) (cell_of b))
  pub rows : r.rows ≡ k.rows
  pub before : r.before ≡ k.before
  pub free : StaysFree k r

-- the byte in column c of a row
abbrev pub ColumnCounted : Row → ℕ → Counting → Counting → Type 0
ColumnCounted row c = CellCounted (length row) c (slice_index row c)

-- The cells before a column are counted, one after the other, on top of s.
pub data CellsCounted (row : Row) (s : Counting) : ℕ → Counting → Type 0 where
  none : CellsCounted row s 0 s
  more : {c : ℕ} {k r : Counting} → CellsCounted row s c k → ColumnCounted row c k r → CellsCounted row s (c + 1) r

-- those before column c, on top of counts that have room for a row
pub record Reached (row : Row) (c : ℕ) (k : Counting) : Type 0 where
  pub start : Counting
  pub few : Below count_bound start.stats
  pub low : Low count_bound start.phantoms
  pub counted : CellsCounted row start c k

-- whatever the cells before column c were counted on top of, those before column c' are counted on top of it
abbrev pub CountedOn : Row → ℕ → Counting → ℕ → Counting → Type 0
CountedOn row c k c' r = (s : Counting) → CellsCounted row s c k → CellsCounted row s c' r
