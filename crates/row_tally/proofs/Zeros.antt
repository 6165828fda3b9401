-- An all-zero row adds nothing to a tally, whichever heads it keeps; and a row is a step where its sum has an arrow.
use mathlib.Core.Path.{◌≡◌, refl, ap, ap₂}
use mathlib.Core.Bool.{Bool, true, false, ◌&&◌, ◌||◌}
use mathlib.Core.List.{List, [], ◌∷◌}
use Prim.Native.Nat.{ℕ, suc, ◌+◌}
use native.Mathlib.Nat.{zero-add}
use native.Mathlib.Omega.{arith}
use borrow.Author.Tests.{eqb-true, le-leb}
use lib.Dec.{eqb, leb}
use lib.ListN.{length}
use Rattle.std.specs.List.{count_by}
use Rattle.definitions.specs.Lists.{number_of_bool}
use Rattle.definitions.specs.Lines.{Row}
use Rattle.definitions.specs.Cells.{cell_of, is_arrow}
use Rattle.definitions.specs.Figures.{is_step}
use Rattle.definitions.specs.Reduction.{all_zero}
use Rattle.definitions.specs.Tracker.{Pair, hold_at}
use Rattle.definitions.specs.Tally.{place, counted_as, count_from, direction, row_sum_by, row_sum}
use Rattle.definitions.specs.Correction.{keep_row}
use Rattle.definitions.specs.Judged.{sum_of_fakes}
use Rattle.definitions.specs.declared.Cell.{Cell}
use Rattle.definitions.specs.declared.Cell.TheVariants.{Empty}
use Rattle.definitions.proofs.Bools.{and_left, and_right}

pub zero-stays : (ps : ℕ → List Pair) (i c : ℕ) (r : Row) → all_zero r ≡ true → keep_row ps i c r ≡ r
unfolding hold_at cell_of
zero-stays ps i c [] z = refl
zero-stays ps i c (b ∷ r) z =
    ap₂ (λ (x : ℕ) (xs : Row). x ∷ xs) (rw (eqb-true b 48 (and_left (eqb b 48) (all_zero r) z))) (zero-stays ps i (suc c) r (and_right (eqb b 48) (all_zero r) z))

pub zero-count : (p : ℕ → Bool) → p 48 ≡ false → (r : Row) → all_zero r ≡ true → count_by p r ≡ 0
zero-count p n [] z = refl
zero-count p n (b ∷ r) z = rw (eqb-true b 48 (and_left (eqb b 48) (all_zero r) z), n, zero-count p n r (and_right (eqb b 48) (all_zero r) z))

zero-from : (p : ℕ → Cell → Bool) → ((c : ℕ) → p c Empty ≡ false) → (c : ℕ) (r : Row) → all_zero r ≡ true → count_from p c r ≡ 0
unfolding cell_of
zero-from p n c [] z = refl
zero-from p n c (b ∷ r) z = rw (eqb-true b 48 (and_left (eqb b 48) (all_zero r) z), n c, zero-from p n (suc c) r (and_right (eqb b 48) (all_zero r) z))

module _ (r : Row) (z : all_zero r ≡ true) where
  -- the row's sum has 0 throughout, as that of no fakes
  pub zero-sum : (arrow : Cell → Bool) → arrow Empty ≡ false → row_sum_by arrow r ≡ sum_of_fakes 0
  unfolding row_sum_by cell_of
  zero-sum arrow n =
      rw (zero-from (λ c x. arrow x) (λ c. n) 0 r z, towards 0, towards 1, towards 2, towards 3, towards 4, towards 5, others 1 refl, others 2 refl, others 3 refl, others 4 refl, others 5 refl, others 6 refl, others 7 refl)
    where
      towards : (d : ℕ) → count_from (λ c x. arrow x && eqb (direction (length r) c) d) 0 r ≡ 0
      towards d = zero-from (λ c x. arrow x && eqb (direction (length r) c) d) (λ c. ap (λ t. t && eqb (direction (length r) c) d) n) 0 r z

      others : (k : ℕ) → eqb 0 k ≡ false → count_by (λ b. eqb (place (counted_as (cell_of b))) k) r ≡ 0
      others k n = zero-count (λ b. eqb (place (counted_as (cell_of b))) k) n r z

-- a row is a step where its sum has an arrow
step_from : (c : ℕ) (r : Row) → leb 1 (count_from (λ c x. is_arrow x) c r) ≡ is_step r
unfolding is_step
step_from c [] = refl
step_from c (b ∷ r) = go (is_arrow (cell_of b)) (count_from (λ c x. is_arrow x) (suc c) r) (is_step r) (step_from (suc c) r)
  where
    go : (t : Bool) (n : ℕ) (s : Bool) → leb 1 n ≡ s → leb 1 (number_of_bool t + n) ≡ (t || s)
    go true n s e = le-leb 1 (1 + n) (omega arith)
    go false n s e = rw zero-add e

pub step-arrows : (r : Row) → leb 1 (row_sum r).arrows ≡ is_step r
unfolding row_sum row_sum_by
step-arrows r = step_from 0 r
