-- A row's cells, one after the other: what is counted, scanned and noted of those before column i.
use mathlib.Core.Path.{◌≡◌, refl, ap, ◌∙◌}
use mathlib.Core.Bool.{Bool, true, false, cond, ◌||◌}
use mathlib.Core.List.{List}
use Prim.Native.Nat.{ℕ, ◌+◌, ◌-◌, ◌<◌, ◌≤◌}
use native.Mathlib.Omega.{arith}
use lib.ListN.{length, get_or, drop, drop_of_length-le}
use Rattle.definitions.specs.Lines.{Row}
use Rattle.definitions.specs.Sizes.{count_bound}
use Rattle.definitions.specs.Cells.{is_arrow}
use Rattle.definitions.specs.Objects.{object_at, is_object}
use Rattle.definitions.specs.Notes.{effect_at}
use Rattle.definitions.specs.Tally.{row_sum, row_sum_by}
use Rattle.phantoms.proofs.Loop.{low-more, Passed, passed_start, passed-next, passed-end, passed-heads, passed-tails}
use Rattle.objects.proofs.Scan.{Scanned, scan-start, scan-depth, scan-next, scan-end}
use Rattle.row_tally.specs.Bounds.{EndsBelow}
use Rattle.row_tally.specs.Raised.{with_cells, row_end}
use Rattle.row_tally.proofs.Bounds.{below_more, under-row}
use Rattle.row_tally.proofs.Heads.{sum-heads, sum-tails}
use Rattle.row_tally.proofs.Raised.{cells-arrows, cells-ends, row-ended, Raised, raised-start, raised-next, raised-below, raised-end}
use Rattle.row_tally.proofs.Loops.{drop-next}
use Rattle.row_notes.proofs.Rows.{Midrow, mid_start, mid-ready, mid_step, row_written}
use Rattle.row_walk.specs.Columns.{Ten, Free}
use Rattle.row_walk.specs.Cells.{notes_of, object_depth_in, CellFits}
use Rattle.row_walk.specs.Rows.{objects_of, CellsReady, RowWalked, ColumnWalked, CellsWalked, none, more, Reached, WalkedOn}
use Rattle.row_walk.specs.declared.columns.Columns.{Columns}
use Rattle.row_walk.specs.declared.cell_walk.Run.{Run}

-- From the run r₀ with the slice l₀ on.
pub record Cells (row : Row) (r₀ : Run) (l₀ : List ℕ) (r : Run) (l : List ℕ) (i : ℕ) : Type 0 where
  pub raised : Raised (length row) false (drop i row) (row_sum_by is_arrow row) r₀.stats r.stats i
  pub passed : Passed row r₀.columns.phantoms r.columns.phantoms i
  pub object : Bool
  pub scanned : Scanned row r₀.columns.object_depths r.columns.object_depths object i
  pub last : r.last ≡ cond object (r₀.row + 1) r₀.last
  pub mid : Midrow l₀ (notes_of r₀) l (notes_of r) i row
  pub ten : Ten r.columns
  pub free : Free r.columns

cells-start : (row : Row) (r : Run) (l : List ℕ) → CellsReady row r l → Cells row r l r l 0
cells-start row r l R = record {
  raised = raised-start false row r.stats;
  passed = passed_start row r.columns.phantoms R.ten.depths;
  object = false;
  scanned = scan-start row r.columns.object_depths R.ten.object_depths;
  last = refl;
  mid = mid_start l (notes_of r) row;
  ten = R.ten;
  free = R.free;
}

-- the last object row, where a cell makes this one an object row or not
last-next : (object o : Bool) (n k last : ℕ) → last ≡ cond object n k → cond o n last ≡ cond (object || o) n k
last-next true true n k last e = refl
last-next true false n k last e = e
last-next false true n k last e = refl
last-next false false n k last e = e

module _ (row : Row) (r₀ : Run) (l₀ : List ℕ) (r : Run) (l : List ℕ) (i : ℕ) (C : Cells row r₀ l₀ r l i) (h : i < length row) (R : CellsReady row r₀ l₀) where
  u : i < 10
  u = omega (arith, R.room.narrow)

  -- what the cell asks
  cells-fits : CellFits r i l
  cells-fits = record {
    few = below_more (count_bound + i) (count_bound + 9) r.stats (omega (arith, u)) (raised-below _ _ _ _ _ _ _ C.raised count_bound R.few);
    low = low-more (count_bound + i) 4294967294 _ (omega (arith, u)) (C.passed.low count_bound R.phantoms);
    object_depth = omega (arith, scan-depth _ _ _ _ _ C.scanned, R.objects i u);
    column = record { inside = u; ten = C.ten; free = C.free };
    note = mid-ready _ _ _ _ _ _ C.mid R.room h;
  }

  -- one cell more
  cells-next : (r' : Run) (l' : List ℕ) → ColumnWalked row i r l r' l' → Cells row r₀ l₀ r' l' (i + 1)
  cells-next r' l' w =
      let W = w.walked in
      let b = get_or row i 0 in
      let o = is_object (object_at b) (object_depth_in r i) in
      record {
        raised = raised-next (length row) false (drop i row) (drop (i + 1) row) (row_sum_by is_arrow row) r₀.stats r.stats i b (drop-next row i h) C.raised _ _ _ refl refl w.counted;
        passed = rw W.phantoms (passed-next row r₀.columns.phantoms r.columns.phantoms i C.passed h u);
        object = C.object || o;
        scanned = rw W.object_depth (scan-next row r₀.columns.object_depths r.columns.object_depths C.object i C.scanned o _ h u refl refl);
        last = W.last ∙ ap (λ (n : ℕ). cond o (n + 1) r.last) C.mid.index ∙ last-next C.object o (r₀.row + 1) r₀.last r.last C.last;
        mid = mid_step l₀ _ l (notes_of r) i row C.mid l' (notes_of r') (effect_at b) refl h w.size W.noted;
        ten = W.ten;
        free = W.free;
      }

-- what is so once the cells before a column are walked
cells-walked : (row : Row) (r₀ : Run) (l₀ : List ℕ) (i : ℕ) (r : Run) (l : List ℕ) → i ≤ length row → CellsReady row r₀ l₀ → CellsWalked row r₀ l₀ i r l → Cells row r₀ l₀ r l i
cells-walked row r₀ l₀ i r l h R none = cells-start row r₀ l₀ R
cells-walked row r₀ l₀ i r l h R (more w x) = cells-next row _ _ _ _ _ (cells-walked row r₀ l₀ _ _ _ (omega arith) R w) (omega arith) R _ _ x

-- a column that is reached has what its cell asks, and one that is walked on to from there is reached too
module _ (row : Row) (c : ℕ) (r : Run) (l : List ℕ) (x : Reached row c r l) where
  pub reached-fits : c < length row → CellFits r c l
  reached-fits h = cells-fits row _ _ _ _ _ (cells-walked row _ _ _ _ _ (omega arith) x.ready x.walked) h x.ready

  pub reached_on : (c' : ℕ) (r' : Run) (l' : List ℕ) → WalkedOn row c r l c' r' l' → Reached row c' r' l'
  reached_on c' r' l' w = record { start = x.start; slots = x.slots; ready = x.ready; walked = w _ _ x.walked }

-- ---- all cells are done
module _ (row : Row) (r₀ : Run) (l₀ : List ℕ) (r : Run) (l : List ℕ) (R : CellsReady row r₀ l₀) (w : CellsWalked row r₀ l₀ (length row) r l) where
  h : length row ≤ length row
  h = omega arith

  C : Cells row r₀ l₀ r l (length row)
  C = cells-walked row _ _ _ _ _ h R w

  whole : r.stats ≡ with_cells r₀.stats (row_sum_by is_arrow row)
  whole = raised-end _ _ _ _ _ _ _ C.raised (drop_of_length-le row h)

  pub ends-few : EndsBelow count_bound r.stats
  ends-few = rw whole (cells-ends count_bound r₀.stats _ R.few)

  pub arrows-few : (r₀.stats.total_arrows ≤ r.stats.total_arrows) × (r.stats.total_arrows ≤ r₀.stats.total_arrows + 10)
  arrows-few =
      let e = cells-arrows _ _ _ C.raised.stats in
      let u = C.raised.summed.under.counts.0 in
      (omega (arith, e), omega (arith, e, u, R.room.narrow))

  pub heads-few : (r₀.columns.phantoms.heads ≤ r.columns.phantoms.heads) × (r.columns.phantoms.heads ≤ r₀.columns.phantoms.heads + 10)
  unfolding row_sum
  heads-few =
      let e = passed-heads _ _ _ _ C.passed h in
      let under = under-row 10 row R.room.narrow in
      (omega (arith, e), omega (arith, e, sum-heads is_arrow row, under))

  pub tails-few : r₀.columns.phantoms.tails ≤ r.columns.phantoms.tails
  tails-few = omega (arith, passed-tails _ _ _ _ C.passed h)

  pub rows-few : r.row < 4294967295
  rows-few = omega (arith, C.mid.index, R.room.written.row, R.room.few)

  -- the row's end
  pub cells-end : (r' : Run)
      → r'.stats ≡ row_end r.stats (r.stats.total_arrows - r₀.stats.total_arrows) (r.columns.phantoms.heads - r₀.columns.phantoms.heads) (r.columns.phantoms.tails - r₀.columns.phantoms.tails)
      → r'.row ≡ r.row + 1 → r'.columns ≡ r.columns → r'.invalid ≡ r.invalid → r'.count ≡ r.count → r'.last ≡ r.last → RowWalked row r₀ l₀ r' l
  unfolding row_sum
  cells-end r' es en ec ei ek el =
      let arrows : r.stats.total_arrows - r₀.stats.total_arrows ≡ (row_sum_by is_arrow row).arrows = omega (arith, cells-arrows _ _ _ whole) in
      let heads : r.columns.phantoms.heads - r₀.columns.phantoms.heads ≡ (row_sum_by is_arrow row).holds + (row_sum_by is_arrow row).rolls = omega (arith, passed-heads _ _ _ _ C.passed h, sum-heads is_arrow row) in
      let tails : r.columns.phantoms.tails - r₀.columns.phantoms.tails ≡ (row_sum_by is_arrow row).tails = omega (arith, passed-tails _ _ _ _ C.passed h, sum-tails is_arrow row) in
      record {
        object = C.object;
        stats = row-ended r₀.stats r.stats r'.stats (row_sum_by is_arrow row) whole _ arrows _ _ heads tails es;
        counted = rw ec (λ L rows wide narrow counts. passed-end _ _ _ _ C.passed h L rows wide narrow counts);
        tested = rw ec (scan-end row (objects_of r₀) _ _ _ C.scanned h);
        last = el ∙ C.last;
        written = row_written _ _ _ R.room _ (notes_of r') (notes_of r) _ C.mid h (ap (λ (k : Columns). k.hold_heads) ec) ek ei en;
        number = en ∙ ap (λ (n : ℕ). n + 1) C.mid.index;
        ten = rw ec C.ten;
        free = rw ec C.free;
      }
