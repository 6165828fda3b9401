-- A cell that is empty does nothing, and so a `0`.
use mathlib.Core.Path.{◌≡◌, refl, sym}
use mathlib.Core.Bool.{false}
use mathlib.Core.List.{List}
use Prim.Native.Nat.{ℕ}
use lib.Seq.{set-get_or}
use Rattle.definitions.specs.Cells.{cell_of}
use Rattle.definitions.specs.Tracker.{hold_at}
use Rattle.definitions.specs.Tally.{direction}
use Rattle.definitions.specs.Objects.{object_at}
use Rattle.definitions.specs.Notes.{effect_at}
use Rattle.definitions.specs.declared.Cell.{Cell}
use Rattle.definitions.specs.declared.Cell.TheVariants.{Empty}
use Rattle.definitions.specs.declared.NoteEffect.TheVariants.{Nothing}
use Rattle.phantoms.proofs.Effects.{effect-none}
use Rattle.row_tally.proofs.Raised.{cell-none}
use Rattle.row_notes.proofs.Steps.{step-nothing}
use Rattle.row_walk.specs.Columns.{Ten, Free}
use Rattle.row_walk.specs.Cells.{notes_of, CellDone, ByteWalked, with_cell, counted_in}
use Rattle.row_walk.specs.declared.cell_walk.Run.{Run}

pub walked-empty : (x : Cell) (c : ℕ) (r : Run) (l : List ℕ) → x ≡ Empty → Ten r.columns → Free r.columns → CellDone x c r l r l
walked-empty x c r l e ten free =
    rw e
    (record {
      phantoms = sym (effect-none r.columns.phantoms c);
      object_depth = sym (set-get_or r.columns.object_depths c 0);
      ten = ten;
      free = free;
      last = refl;
      noted = step-nothing l (notes_of r) r.row c Nothing refl;
    })

pub counted-empty : (x : Cell) (c L : ℕ) (r : Run) → x ≡ Empty → r.stats ≡ counted_in r L c x
counted-empty x c L r e = rw e (sym (cell-none r.stats false (direction L c)))

zero-empty : (b : ℕ) → b ≡ 48 → cell_of b ≡ Empty
unfolding cell_of
zero-empty b e = rw e

pub walked-zero : (b c : ℕ) (r : Run) (l : List ℕ) → b ≡ 48 → Ten r.columns → Free r.columns → ByteWalked b c r l r l
unfolding hold_at object_at effect_at
walked-zero b c r l e ten free = walked-empty (cell_of b) c r l (zero-empty b e) ten free

pub counted-zero : (b c L : ℕ) (r : Run) → b ≡ 48 → r.stats ≡ counted_in r L c (cell_of b)
counted-zero b c L r e = counted-empty (cell_of b) c L r (zero-empty b e)

-- ---- a cell by what its letter does, and the tally with it
module _ (x : Cell) (b c L : ℕ) (r m r' : Run) (e : cell_of b ≡ x) (s : r' ≡ with_cell m L c x) where
  pub done-walked : (l l' : List ℕ) → CellDone x c r l m l' → CellDone (cell_of b) c r l r' l'
  done-walked l l' w =
      rw (s, e)
      (record { phantoms = w.phantoms; object_depth = w.object_depth; ten = w.ten; free = w.free; last = w.last; noted = w.noted })

  pub done-counted : m.stats ≡ r.stats → r'.stats ≡ counted_in r L c (cell_of b)
  done-counted t = rw (s, e, t)
