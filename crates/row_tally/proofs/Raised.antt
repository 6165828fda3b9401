-- A tally that is raised cell by cell: its start, a cell more, and how large its counts are.
use mathlib.Core.Path.{◌≡◌, refl, ap, sym, ◌∙◌}
use mathlib.Core.Bool.{Bool, true, false, ◌&&◌}
use mathlib.Core.List.{[], ◌∷◌}
use Prim.Native.Nat.{ℕ, ◌+◌}
use native.Mathlib.Nat.{zero-add, add-zero, add_assoc}
use native.Mathlib.Omega.{arith}
use lib.Dec.{leb}
use lib.ListN.{length}
use Rattle.definitions.specs.Lines.{Row}
use Rattle.definitions.specs.Cells.{cell_of}
use Rattle.definitions.specs.Tally.{direction, row_sum_by, empty_sum, tally_with_sum, tally_with_row}
use Rattle.definitions.specs.Judged.{judge_row}
use Rattle.definitions.specs.declared.Cell.{Cell}
use Rattle.definitions.specs.declared.Cell.TheVariants.{Empty}
use Rattle.definitions.specs.declared.RowSum.{RowSum}
use Rattle.definitions.specs.declared.ArrowStats.{ArrowStats}
use Rattle.row_tally.specs.Bounds.{Under, Below, EndsBelow}
use Rattle.row_tally.specs.Sums.{sum_with_cell, arrow_of, add_by}
use Rattle.row_tally.specs.Raised.{with_cells, with_end, row_end, judged_row_end}
use Rattle.row_tally.proofs.Sums.{no_cell}
use Rattle.row_tally.proofs.Bounds.{under-cell}
use Rattle.row_tally.proofs.Loops.{Summed, summed-start, summed-next, summed-empty, summed-end}

-- no cells add nothing
pub cells-none : (t : ArrowStats) → with_cells t empty_sum ≡ t
unfolding with_cells
cells-none t = simp add-zero

-- a cell more
pub cells-next : (t : ArrowStats) (s : RowSum) (judged : Bool) (d : ℕ) (x : Cell)
    → with_cells (with_cells t s) (add_by judged empty_sum d x) ≡ with_cells t (add_by judged s d x)
unfolding with_cells sum_with_cell
cells-next t s judged d x = simp (zero-add, add_assoc)

-- a row's cells and its end are a row more
module _ (t r q : ArrowStats) (s : RowSum) (e : r ≡ with_cells t s) (arrows : ℕ) (ea : arrows ≡ s.arrows) where
  pub row-ended : (heads tails : ℕ) → heads ≡ s.holds + s.rolls → tails ≡ s.tails → q ≡ row_end r arrows heads tails → q ≡ tally_with_row t s
  unfolding with_cells with_end tally_with_row
  row-ended heads tails eh et h = h ∙ rw (e, ea, eh, et)

  pub judged-row-ended : (judged : Bool) (others held : ℕ) → others ≡ s.mines + s.fakes → q ≡ judged_row_end r judged arrows others held
      → q ≡ judge_row t judged held s
  unfolding with_cells with_end judge_row
  judged-row-ended judged others held eo h = h ∙ rw (e, ea, eo) (ap (λ n. tally_with_sum t s (judged && (leb 1 n && leb 3 (s.arrows + held))) 0) (sym (add_assoc s.arrows s.mines s.fakes)))

-- a row's cells add at most n to each count, and nothing to what its end alone raises
pub cells-ends : (k : ℕ) (t : ArrowStats) (s : RowSum) → Below k t → EndsBelow k (with_cells t s)
unfolding with_cells
cells-ends k t s b = omega arith

pub below-cells : (k n : ℕ) (t : ArrowStats) (s : RowSum) → Below k t → Under n s → Below (k + n) (with_cells t s)
unfolding with_cells
below-cells k n t s b u = omega arith

-- one cell adds at most 1
pub cell-below : (k : ℕ) (t : ArrowStats) (judged : Bool) (d : ℕ) (x : Cell) → Below k t → Below (k + 1) (with_cells t (add_by judged empty_sum d x))
cell-below k t judged d x b = below-cells k 1 t _ b (under-cell 0 empty_sum d (arrow_of judged x) (omega arith) x)

-- an empty cell adds nothing
pub cell-none : (t : ArrowStats) (judged : Bool) (d : ℕ) → with_cells t (add_by judged empty_sum d Empty) ≡ t
cell-none t true d = ap (with_cells t) (no_cell empty_sum d) ∙ cells-none t
cell-none t false d = ap (with_cells t) (no_cell empty_sum d) ∙ cells-none t

-- the arrows of the row are what the tally's grew by, and so with the other counts
module _ (t r : ArrowStats) (s : RowSum) (e : r ≡ with_cells t s) where
  pub cells-arrows : r.total_arrows ≡ t.total_arrows + s.arrows
  unfolding with_cells
  cells-arrows = rw e

  pub cells-mines : r.mines ≡ t.mines + s.mines
  unfolding with_cells
  cells-mines = rw e

  pub cells-fakes : r.fakes ≡ t.fakes + s.fakes
  unfolding with_cells
  cells-fakes = rw e

-- The loops over the cells of a row of L columns: l is what is left of it at column i, w the sum of the whole, and r the tally t with the cells so far.
pub record Raised (L : ℕ) (judged : Bool) (l : Row) (w : RowSum) (t r : ArrowStats) (i : ℕ) : Type 0 where
  pub sum : RowSum
  pub stats : r ≡ with_cells t sum
  pub summed : Summed L (arrow_of judged) l w sum i

pub raised-start : (judged : Bool) (l : Row) (t : ArrowStats) → Raised (length l) judged l (row_sum_by (arrow_of judged) l) t t 0
raised-start judged l t = record { sum = empty_sum; stats = sym (cells-none t); summed = summed-start (arrow_of judged) l empty_sum refl }

module _ (L : ℕ) (judged : Bool) (l k : Row) (w : RowSum) (t r : ArrowStats) (i b : ℕ) (e : l ≡ b ∷ k) (x : Raised L judged l w t r i) where
  -- a cell more
  pub raised-next : (d : ℕ) (c : Cell) (q : ArrowStats) → d ≡ direction L i → c ≡ cell_of b → q ≡ with_cells r (add_by judged empty_sum d c)
      → Raised L judged k w t q (i + 1)
  raised-next d c q ed ec h = record {
    sum = add_by judged x.sum d c;
    stats = h ∙ ap (λ p. with_cells p (add_by judged empty_sum d c)) x.stats ∙ cells-next t x.sum judged d c;
    summed = summed-next L (arrow_of judged) l k w x.sum _ i b e (rw (ed, ec)) x.summed;
  }

  -- an empty cell adds nothing
  pub raised-empty : cell_of b ≡ Empty → Raised L judged k w t r (i + 1)
  raised-empty f = record {
    sum = x.sum;
    stats = x.stats;
    summed = summed-empty L (arrow_of judged) l k w x.sum i b e f (no_arrow judged) x.summed;
  }
    where
      no_arrow : (j : Bool) → arrow_of j Empty ≡ false
      no_arrow true = refl
      no_arrow false = refl

-- the counts before a cell, and the row's end
module _ (L : ℕ) (judged : Bool) (l : Row) (w : RowSum) (t r : ArrowStats) (i : ℕ) (x : Raised L judged l w t r i) where
  pub raised-below : (k : ℕ) → Below k t → Below (k + i) r
  raised-below k b = rw x.stats (below-cells k i t x.sum b x.summed.under)

  pub raised-end : l ≡ [] → r ≡ with_cells t w
  raised-end e = x.stats ∙ ap (with_cells t) (summed-end L (arrow_of judged) l w x.sum i e x.summed)
