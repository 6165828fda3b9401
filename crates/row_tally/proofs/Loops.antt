-- The loops over the cells of a row of L columns: l is what is left of it at column i, s the sum so far, and w the sum of the whole.
use mathlib.Core.Path.{◌≡◌, ap, sym, ◌∙◌}
use mathlib.Core.Bool.{Bool, false}
use mathlib.Core.List.{[], ◌∷◌}
use Prim.Native.Nat.{ℕ, ◌+◌, ◌<◌}
use native.Mathlib.Numerals.{add-one}
use native.Mathlib.Omega.{arith}
use lib.ListN.{length, get_or, drop}
use lib.Seq.{drop-cons}
use Rattle.definitions.specs.Lines.{Row}
use Rattle.definitions.specs.Cells.{cell_of}
use Rattle.definitions.specs.Tally.{direction, row_sum_by, empty_sum}
use Rattle.definitions.specs.declared.Cell.{Cell}
use Rattle.definitions.specs.declared.Cell.TheVariants.{Empty}
use Rattle.definitions.specs.declared.RowSum.{RowSum}
use Rattle.row_tally.specs.Bounds.{Under}
use Rattle.row_tally.specs.Sums.{sum_with_cell}
use Rattle.row_tally.proofs.Sums.{sum_from, sum-start, sum-end, sum-next, no_cell}
use Rattle.row_tally.proofs.Bounds.{under-cell}

pub record Summed (L : ℕ) (arrow : Cell → Bool) (l : Row) (w s : RowSum) (i : ℕ) : Type 0 where
  pub under : Under i s
  pub whole : sum_from L arrow s i l ≡ w

pub summed-start : (arrow : Cell → Bool) (l : Row) (s : RowSum) → s ≡ empty_sum → Summed (length l) arrow l (row_sum_by arrow l) s 0
summed-start arrow l s e = rw e (record { under = omega arith; whole = sum-start arrow l })

module _ (L : ℕ) (arrow : Cell → Bool) where
  pub summed-next : (l k : Row) (w s r : RowSum) (i b : ℕ) → l ≡ b ∷ k → r ≡ sum_with_cell s (direction L i) (cell_of b) (arrow (cell_of b))
      → Summed L arrow l w s i → Summed L arrow k w r (i + 1)
  summed-next l k w s r i b e f h =
      rw f
      (record {
        under = under-cell i s (direction L i) (arrow (cell_of b)) h.under (cell_of b);
        whole = rw add-one (sym (sum-next L arrow s i b k) ∙ sym (ap (sum_from L arrow s i) e) ∙ h.whole);
      })

  -- an empty cell adds nothing
  pub summed-empty : (l k : Row) (w s : RowSum) (i b : ℕ) → l ≡ b ∷ k → cell_of b ≡ Empty → arrow Empty ≡ false → Summed L arrow l w s i → Summed L arrow k w s (i + 1)
  summed-empty l k w s i b e f a h = summed-next l k w s s i b e (rw (f, a) (sym (no_cell s (direction L i)))) h

  pub summed-end : (l : Row) (w s : RowSum) (i : ℕ) → l ≡ [] → Summed L arrow l w s i → s ≡ w
  summed-end l w s i e h = sym (sum-end L arrow s i) ∙ sym (ap (sum_from L arrow s i) e) ∙ h.whole

-- one column more of a row that a loop passes
pub drop-next : (row : Row) (i : ℕ) → i < length row → drop i row ≡ get_or row i 0 ∷ drop (i + 1) row
drop-next row i h = rw (add-one, drop-cons row i 0)
