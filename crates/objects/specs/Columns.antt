-- What the cells of a row do to what is held of the last object row, before the row is counted: cited by private functions alone.
use Rattle.std.specs.Prelude.{◌≡◌, ℕ, zero, suc, ◌+◌, Some, if◌then◌else◌, slice_index, set}
use Rattle.definitions.specs.Lines.{Row}
use Rattle.definitions.specs.Objects.{object_at, is_object, deeper}
use Rattle.definitions.specs.declared.DepthEffect.{DepthEffect}
use Rattle.taps.specs.Taps.{FreeAre}
use Rattle.objects.specs.Rows.{depth_at}
use Rattle.objects.specs.declared.LastScan.{LastScan}

-- A cell of this effect in column c.
pub record EffectDone (c : ℕ) (e : DepthEffect) (s r : LastScan) : Type 0 where
  pub depths : r.depths.depths ≡ set s.depths.depths c (deeper e (depth_at s.depths c))
  pub row : r.row ≡ if is_object e (depth_at s.depths c) then Some s.rows else s.row
  pub found : r.found ≡ s.found
  pub rows : r.rows ≡ s.rows
  pub midx : r.midx ≡ s.midx
  pub free : FreeAre s.busy 0 s.depths.depths → FreeAre r.busy 0 r.depths.depths

-- the byte in column c of a row
abbrev pub ColumnDone : Row → ℕ → LastScan → LastScan → Type 0
ColumnDone row c = EffectDone c (object_at (slice_index row c))

-- those in n columns from c on, one after the other
abbrev pub ColumnsDone : Row → ℕ → ℕ → LastScan → LastScan → Type 0
ColumnsDone row c zero s r = r ≡ s
ColumnsDone row c (suc n) s r = (m : LastScan) × (ColumnDone row c s m × ColumnsDone row (c + 1) n m r)
