-- A row's cells, one after the other: what is counted of those before column i, from k₀ on.
use mathlib.Core.Path.{◌≡◌, refl, ap, ◌∙◌}
use mathlib.Core.Bool.{false}
use Prim.Native.Nat.{ℕ, ◌+◌, ◌*◌, ◌<◌, ◌≤◌}
use native.Mathlib.Nat.{add-zero}
use native.Mathlib.Omega.{arith}
use lib.ListN.{length, get_or, drop, drop_of_length-le}
use Rattle.definitions.specs.Sizes.{count_bound, row_count_bound}
use Rattle.definitions.specs.Lines.{Row}
use Rattle.definitions.specs.Cells.{cell_of, is_arrow}
use Rattle.definitions.specs.Tally.{direction, row_sum}
use Rattle.phantoms.specs.Phantoms.{Low}
use Rattle.phantoms.proofs.Loop.{low-more, Passed, passed_start, passed-next, passed-heads, passed-tails}
use Rattle.row_tally.specs.Bounds.{Below}
use Rattle.row_tally.specs.Raised.{with_cells}
use Rattle.row_tally.proofs.Bounds.{below_more}
use Rattle.row_tally.proofs.Heads.{sum-heads, sum-tails}
use Rattle.row_tally.proofs.Loops.{drop-next}
use Rattle.row_tally.proofs.Raised.{Raised, raised-start, raised-next, raised-end, cells-arrows}
use Rattle.measure_tally.specs.declared.Counting.{Counting}
use Rattle.measure_tally.proofs.Cells.{cell-few, cell-low}
use Rattle.measure_tally.specs.Counted.{Few}
use Rattle.measure_tally.specs.Cells.{StaysFree, CellCounted, CellsCounted, none, more, CountedOn, Reached}

pub record Lined (row : Row) (k₀ k : Counting) (i : ℕ) : Type 0 where
  pub passed : Passed row k₀.phantoms k.phantoms i
  pub raised : Raised (length row) false (drop i row) (row_sum row) k₀.stats k.stats i
  pub rows : k.rows ≡ k₀.rows
  pub before : k.before ≡ k₀.before
  pub free : StaysFree k₀ k

lined-start : (row : Row) (k : Counting) → length k.phantoms.depths ≡ 10 → Lined row k k 0
unfolding row_sum
lined-start row k h = record { passed = passed_start row k.phantoms h; raised = raised-start false row k.stats; rows = refl; before = refl; free = λ f. f }

-- one cell more
lined-next : (row : Row) (k₀ k r : Counting) (i : ℕ) → i < length row → length row ≤ 10 → Lined row k₀ k i → CellCounted (length row) i (get_or row i 0) k r
    → Lined row k₀ r (i + 1)
lined-next row k₀ k r i h narrow x w = record {
  passed = rw w.phantoms (passed-next row k₀.phantoms k.phantoms i x.passed h (omega arith));
  raised =
      raised-next (length row) false (drop i row) (drop (i + 1) row) (row_sum row) k₀.stats k.stats i (get_or row i 0) (drop-next row i h) x.raised
      (direction (length row) i) (cell_of (get_or row i 0)) r.stats refl refl w.stats;
  rows = w.rows ∙ x.rows;
  before = w.before ∙ x.before;
  free = λ f. w.free (x.free f);
}

-- those before a column
pub lined-cells : (row : Row) (k r : Counting) (c : ℕ) → length k.phantoms.depths ≡ 10 → length row ≤ 10 → c ≤ length row → CellsCounted row k c r → Lined row k r c
lined-cells row k r c size narrow h none = lined-start row k size
lined-cells row k r c size narrow h (more v w) = lined-next row k _ r _ (omega arith) narrow (lined-cells row k _ _ size narrow (omega arith) v) w

-- each cell adds at most 1 to each count
cells-few : (row : Row) (n : ℕ) (k : Counting) (c : ℕ) (r : Counting) → CellsCounted row k c r → Below n k.stats → Below (n + c) r.stats
cells-few row n k c r none b = rw (add-zero n) b
cells-few row n k c r (more {c = m} v w) b =
    let next : n + (m + 1) ≡ n + m + 1 = omega arith in
    rw next (cell-few _ _ _ _ _ _ w (cells-few row n k m _ v b))

cells-low : (row : Row) (n : ℕ) (k : Counting) (c : ℕ) (r : Counting) → CellsCounted row k c r → Low n k.phantoms → Low (n + c) r.phantoms
cells-low row n k c r none b = rw (add-zero n) b
cells-low row n k c r (more {c = m} v w) b =
    let next : n + (m + 1) ≡ n + m + 1 = omega arith in
    rw next (cell-low _ _ _ _ _ _ w (cells-low row n k m _ v b))

-- before the first column
pub reached-start : (row : Row) (k : Counting) → Few k → k.rows < row_count_bound → Reached row 0 k
reached-start row k f h = record {
  start = k;
  few = below_more (10 * k.rows) count_bound k.stats (omega arith) f.stats;
  low = low-more (10 * k.rows) count_bound k.phantoms (omega arith) f.phantoms;
  counted = none;
}

-- the next column has room, and is then among those before
module _ (row : Row) (c : ℕ) (k : Counting) (x : Reached row c k) where
  pub reached-few : c < 10 → Below (count_bound + 9) k.stats
  reached-few h = below_more (count_bound + c) (count_bound + 9) k.stats (omega arith) (cells-few row count_bound x.start c k x.counted x.few)

  pub reached-low : c < 10 → Low (count_bound + 9) k.phantoms
  reached-low h = low-more (count_bound + c) (count_bound + 9) k.phantoms (omega arith) (cells-low row count_bound x.start c k x.counted x.low)

  pub reached_on : (c' : ℕ) (r : Counting) → CountedOn row c k c' r → Reached row c' r
  reached_on c' r w = record { start = x.start; few = x.few; low = x.low; counted = w _ x.counted }

-- all cells of a row are done
module _ (row : Row) (k₀ k : Counting) (i : ℕ) (x : Lined row k₀ k i) (left : length row ≤ i) where
  pub lined-stats : k.stats ≡ with_cells k₀.stats (row_sum row)
  lined-stats = raised-end (length row) false (drop i row) (row_sum row) k₀.stats k.stats i x.raised (drop_of_length-le row left)

  pub lined-arrows : k.stats.total_arrows ≡ k₀.stats.total_arrows + (row_sum row).arrows
  lined-arrows = cells-arrows k₀.stats k.stats (row_sum row) lined-stats

  pub lined-heads : k.phantoms.heads ≡ k₀.phantoms.heads + ((row_sum row).holds + (row_sum row).rolls)
  unfolding row_sum
  lined-heads = passed-heads row k₀.phantoms k.phantoms i x.passed left ∙ ap (λ n. k₀.phantoms.heads + n) (sum-heads is_arrow row)

  pub lined-tails : k.phantoms.tails ≡ k₀.phantoms.tails + (row_sum row).tails
  unfolding row_sum
  lined-tails = passed-tails row k₀.phantoms k.phantoms i x.passed left ∙ ap (λ n. k₀.phantoms.tails + n) (sum-tails is_arrow row)
