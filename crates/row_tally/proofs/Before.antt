-- The cells of a row before a column: how much they add up to, a cell more, and the whole row.
use mathlib.Core.Path.{◌≡◌, refl, ap, ◌∙◌}
use mathlib.Core.Bool.{Bool}
use Prim.Native.Nat.{ℕ, zero, suc, ◌+◌, ◌≤◌}
use native.Mathlib.Numerals.{add-one}
use native.Mathlib.Omega.{arith}
use lib.ListN.{length, get_or, drop, drop_of_length-le}
use Rattle.definitions.specs.Lines.{Row}
use Rattle.definitions.specs.Cells.{cell_of}
use Rattle.definitions.specs.Tally.{direction, row_sum_by, empty_sum}
use Rattle.definitions.specs.declared.ArrowStats.{ArrowStats}
use Rattle.row_tally.specs.Before.{sum_before}
use Rattle.row_tally.specs.Bounds.{Under, Below}
use Rattle.row_tally.specs.Raised.{with_cells}
use Rattle.row_tally.specs.Sums.{arrow_of, add_by}
use Rattle.row_tally.proofs.Loops.{Summed, summed-start, summed-next, summed-end, drop-next}
use Rattle.row_tally.proofs.Raised.{cells-next, below-cells}

module _ (judged : Bool) (r : Row) where
  summed : (i : ℕ) → i ≤ length r → Summed (length r) (arrow_of judged) (drop i r) (row_sum_by (arrow_of judged) r) (sum_before judged r i) i
  summed zero h = summed-start (arrow_of judged) r empty_sum refl
  summed (suc i) h =
      rw add-one at
      (summed-next (length r) (arrow_of judged) (drop i r) (drop (i + 1) r) _ (sum_before judged r i) _ i (get_or r i 0) (drop-next r i (omega arith)) refl (summed i (omega arith)))

  pub before-under : (i : ℕ) → i ≤ length r → Under i (sum_before judged r i)
  before-under i h = (summed i h).under

  -- all cells are the row
  pub before-whole : (i : ℕ) → length r ≡ i → sum_before judged r i ≡ row_sum_by (arrow_of judged) r
  before-whole i e =
      summed-end (length r) (arrow_of judged) (drop i r) _ (sum_before judged r i) i (drop_of_length-le r (omega arith)) (summed i (omega arith))

  module _ (t p : ArrowStats) (i : ℕ) (e : p ≡ with_cells t (sum_before judged r i)) where
    -- a cell more
    pub before-next : (q : ArrowStats) → q ≡ with_cells p (add_by judged empty_sum (direction (length r) i) (cell_of (get_or r i 0)))
        → q ≡ with_cells t (sum_before judged r (i + 1))
    before-next q h =
        rw add-one
        (h ∙ ap (λ s. with_cells s (add_by judged empty_sum (direction (length r) i) (cell_of (get_or r i 0)))) e
        ∙ cells-next t (sum_before judged r i) judged (direction (length r) i) (cell_of (get_or r i 0)))

    -- the counts at a column
    pub before-below : (k : ℕ) → i ≤ length r → Below k t → Below (k + i) p
    before-below k h b = rw e (below-cells k i t (sum_before judged r i) b (before-under i h))
