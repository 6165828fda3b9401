-- The columns of the walk: which of them have nothing open, and what a cell leaves of its own.
use Rattle.std.specs.Prelude.{◌≡◌, ℕ, ◌<◌, length, set}
use Rattle.definitions.specs.declared.DepthEffect.{DepthEffect}
use Rattle.phantoms.specs.Phantoms.{with_effect}
use Rattle.taps.specs.Taps.{FreeAre}
use Rattle.row_notes.specs.Writer.{no_head}
use Rattle.row_walk.specs.declared.columns.Columns.{Columns}

-- each column has its three numbers
pub record Ten (k : Columns) : Type 0 where
  pub depths : length k.phantoms.depths ≡ 10
  pub object_depths : length k.object_depths ≡ 10
  pub heads : length k.hold_heads ≡ 10

-- a column without its bit has the depths 0 and no open head
pub record Free (k : Columns) : Type 0 where
  pub depths : FreeAre k.busy 0 k.phantoms.depths
  pub object_depths : FreeAre k.busy 0 k.object_depths
  pub heads : FreeAre k.busy no_head k.hold_heads

-- what a cell in column c asks
pub record ColumnReady (k : Columns) (c : ℕ) : Type 0 where
  pub inside : c < 10
  pub ten : Ten k
  pub free : Free k

-- A cell of that effect on the phantom depth stands in column c, which then has this object depth and this open head. The others are as they were.
pub record ColumnPut (k : Columns) (c : ℕ) (e : DepthEffect) (object head : ℕ) (r : Columns) : Type 0 where
  pub phantoms : r.phantoms ≡ with_effect k.phantoms c e
  pub object_depths : r.object_depths ≡ set k.object_depths c object
  pub heads : r.hold_heads ≡ set k.hold_heads c head
  pub ten : Ten r
  pub free : Free r
