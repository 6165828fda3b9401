-- What a walk holds, as what is counted and noted, with one row more.
use mathlib.Core.Path.{◌≡◌, refl, ap}
use mathlib.Core.Bool.{Bool, true, false, cond, not}
use mathlib.Core.List.{List, [], ◌∷◌, ◌++◌}
use Prim.Native.Nat.{ℕ, ◌+◌, ◌-◌, ◌≤◌}
use native.Mathlib.Omega.{arith}
use borrow.Author.Tests.{lt-ltb}
use lib.Dec.{eqb}
use Rattle.std.specs.Prelude.{Some}
use Rattle.definitions.specs.Lines.{Row}
use Rattle.taps.specs.Taps.{FreeTaps, FreeAre}
use Rattle.phantoms.proofs.Free.{free-row}
use Rattle.objects.specs.Rows.{RowDone}
use Rattle.objects.specs.LastHeld.{LastHeld}
use Rattle.objects.proofs.Free.{free-done}
use Rattle.objects.proofs.LastHeld.{held-object, held-other}
use Rattle.row_walk.specs.Cells.{notes_of}
use Rattle.row_walk.specs.Rows.{objects_of, CellsReady, RowWalked}
use Rattle.row_walk.specs.declared.cell_walk.Run.{Run}
use Rattle.measure_tally.proofs.Rows.{counted-row}
use Rattle.tap_walk.proofs.Rows.{noted-row}
use Rattle.tap_walk.specs.Held.{Rest, row_at, noting_of}
use Rattle.tap_walk.specs.Walked.{TapsAdded, RowAdded}

-- the last object row
module _ (first : ℕ) (q : Rest) (r : Run) (above : first ≤ r.row) (done : List (List Row)) (cur : List Row) where
  held_run : LastHeld (noting_of first q r).last done cur → (row : Row) (depths : List ℕ) (object : Bool) (busy : ℕ)
      → RowDone row (objects_of r) (record { object = object; depths = record { depths = depths } }) → FreeAre busy 0 depths
      → LastHeld (record { depths = record { depths = depths }; busy = busy; found = q.found; row = row_at first (cond object (r.row + 1) r.last); rows = r.row + 1 - first; midx = q.midx }) done (cur ++ (row ∷ []))
  held_run x row depths true busy w free =
      let rows : r.row + 1 - first ≡ r.row - first + 1 = omega arith in
      let at : row_at first (r.row + 1) ≡ Some (r.row - first) = rw (lt-ltb first (r.row + 1) (omega arith)) (ap Some (omega arith)) in
      rw (rows, at) (held-object _ done cur x row _ w busy free refl)
  held_run x row depths false busy w free =
      let rows : r.row + 1 - first ≡ r.row - first + 1 = omega arith in
      rw rows (held-other _ done cur x row _ w busy free refl)

module _ (row : Row) (r : Run) (l : List ℕ) (R : CellsReady row r l) (t : Run) (l' : List ℕ) where
  -- by its cells
  pub added-cells : RowWalked row r l t l' → RowAdded row r l t l'
  added-cells W = record {
    number = W.number;
    ten = W.ten;
    counted = λ q L done cur w v x. rw W.number (counted-row L _ done cur x row w v _ _ _ W.stats W.counted W.free.depths W.ten.depths);
    noted = λ q L first done cur above w x.
        rw (W.number, W.last)
        (noted-row L _ l l' row done cur w x _ _ (rw W.number at W.written)
        (held_run first q r above done cur x.last row _ W.object _ W.tested W.free.object_depths)
        W.free.heads);
  }

  -- of taps, by its mask
  pub added-taps : (mask : ℕ) → TapsAdded r mask l l' t → FreeTaps r.columns.busy mask row → RowAdded row r l t l'
  added-taps mask A free = record {
    number = A.row;
    ten = rw A.columns R.ten;
    counted = λ q L done cur w v x.
        rw (A.columns, A.row) (counted-row L _ done cur x row w v _ _ _ (A.stats row free.mask) (free-row _ _ row _ free x.free) x.free R.ten.depths);
    noted = λ q L first done cur above w x.
        rw (A.columns, A.invalid, A.row, A.last)
        (noted-row L _ l l' row done cur w x _ _
        (A.written (notes_of r) row (record { row = refl; count = refl; room = R.room; heads = record { busy = r.columns.busy; mask = mask; taps = free; free = R.free.heads }; mask = free.mask }))
        (held_run first q r above done cur x.last row r.columns.object_depths (not (eqb mask 0)) r.columns.busy (free-done _ _ row _ free R.free.object_depths) x.last.free)
        x.free);
  }
