-- A row's sum as the loops reach it: what is done, and the counts of the rest.
use mathlib.Core.Path.{◌≡◌}
use mathlib.Core.Bool.{Bool, false, ◌&&◌}
use mathlib.Core.List.{[], ◌∷◌}
use Prim.Native.Nat.{ℕ, suc, ◌+◌}
use native.Mathlib.Nat.{zero-add, add-zero, add_assoc}
use lib.Dec.{eqb}
use lib.ListN.{length}
use Rattle.definitions.specs.Lists.{number_of_bool}
use Rattle.definitions.proofs.Lists.{count-cons}
use Rattle.definitions.specs.Lines.{Row}
use Rattle.definitions.specs.Cells.{cell_of, CountKind, hold, roll, tail, mine, lift, fake, keysound}
use Rattle.definitions.specs.Tally.{counted_as, place, count_from, counted, direction, row_sum_by, empty_sum}
use Rattle.definitions.specs.declared.Cell.{Cell}
use Rattle.definitions.specs.declared.Cell.TheVariants.{Empty}
use Rattle.definitions.specs.declared.RowSum.{RowSum}
use Rattle.row_tally.specs.Sums.{add_counts, sum_with_cell}

-- the sum s, with the cells of a row of L columns from column c on
unfoldable pub sum_from : ℕ → (Cell → Bool) → RowSum → ℕ → Row → RowSum
sum_from L arrow s c r =
    add_counts s
    (count_from (λ c x. arrow x) c r)
    (λ d. count_from (λ c x. arrow x && eqb (direction L c) d) c r)
    (λ k. counted k r)

pub sum-start : (arrow : Cell → Bool) (r : Row) → sum_from (length r) arrow empty_sum 0 r ≡ row_sum_by arrow r
unfolding sum_from row_sum_by
sum-start arrow r = simp zero-add

pub sum-end : (L : ℕ) (arrow : Cell → Bool) (s : RowSum) (c : ℕ) → sum_from L arrow s c [] ≡ s
unfolding sum_from
sum-end L arrow s c = simp add-zero

counted-cons : (k : CountKind) (b : ℕ) (r : Row) → counted k (b ∷ r) ≡ number_of_bool (eqb (place (counted_as (cell_of b))) (place k)) + counted k r
counted-cons k b r = count-cons (λ x. eqb (place (counted_as (cell_of x))) (place k)) b r

pub sum-next : (L : ℕ) (arrow : Cell → Bool) (s : RowSum) (c b : ℕ) (r : Row)
    → sum_from L arrow s c (b ∷ r) ≡ sum_from L arrow (sum_with_cell s (direction L c) (cell_of b) (arrow (cell_of b))) (suc c) r
unfolding sum_from sum_with_cell
sum-next L arrow s c b r =
    rw (
      counted-cons hold b r,
      counted-cons roll b r,
      counted-cons tail b r,
      counted-cons mine b r,
      counted-cons lift b r,
      counted-cons fake b r,
      counted-cons keysound b r,
    )
    (simp add_assoc)

pub no_cell : (s : RowSum) (d : ℕ) → sum_with_cell s d Empty false ≡ s
unfolding sum_with_cell
no_cell s d = simp add-zero
