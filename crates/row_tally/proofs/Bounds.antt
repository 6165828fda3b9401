-- How the counts grow: a row's sum by at most 1 with each cell, and a tally by at most n with a row of n cells.
use mathlib.Core.Path.{◌≡◌, refl}
use mathlib.Core.Bool.{Bool, true, false, ◌&&◌}
use mathlib.Core.List.{[], ◌∷◌}
use Prim.Native.Nat.{ℕ, suc, ◌+◌, ◌≤◌}
use native.Mathlib.Omega.{arith}
use borrow.Author.Tests.{eqb-true}
use lib.Dec.{eqb, leb}
use lib.ListN.{length}
use Rattle.definitions.proofs.Lists.{one-le}
use Rattle.std.proofs.lemmas.List.Sums.{count_by-le-length}
use Rattle.definitions.specs.Lists.{number_of_bool}
use Rattle.definitions.specs.Lines.{Row}
use Rattle.definitions.specs.Cells.{cell_of}
use Rattle.definitions.specs.Tally.{counted_as, place, direction, row_sum, row_sum_by, empty_stats, tally_with_row, empty_sum}
use Rattle.definitions.specs.Judged.{is_judged_arrow, is_unjudged_fake, judged_sum, judge_row}
use Rattle.definitions.specs.declared.Cell.{Cell}
use Rattle.definitions.specs.declared.RowSum.{RowSum}
use Rattle.definitions.specs.declared.ArrowStats.{ArrowStats}
use Rattle.row_tally.specs.Bounds.{Under, Below}
use Rattle.row_tally.specs.Sums.{sum_with_cell}
use Rattle.row_tally.proofs.Sums.{sum_from, sum-start, sum-end, sum-next}

pub under_more : (j k : ℕ) (s : RowSum) → j ≤ k → Under j s → Under k s
under_more j k s h u = omega arith

pub below_more : (j k : ℕ) (t : ArrowStats) → j ≤ k → Below j t → Below k t
below_more j k t h b = omega arith

-- a cell is a hold or a roll, and not both
heads-le : (n : ℕ) → number_of_bool (eqb n 1) + number_of_bool (eqb n 2) ≤ 1
heads-le n = go (eqb n 1) (eqb n 2) (eqb-true n 1) (eqb-true n 2)
  where
    go : (p q : Bool) → (p ≡ true → n ≡ 1) → (q ≡ true → n ≡ 2) → number_of_bool p + number_of_bool q ≤ 1
    go true true a b = absurd (omega (arith, a refl, b refl))
    go true false a b = omega arith
    go false q a b = omega (arith, one-le q)

module _ (k : ℕ) (s : RowSum) (d : ℕ) (arrow : Bool) (u : Under k s) where
  pub under-cell : (x : Cell) → Under (k + 1) (sum_with_cell s d x arrow)
  unfolding sum_with_cell
  under-cell x =
      let a = one-le arrow in
      let l = one-le (arrow && eqb d 0) in
      let n = one-le (arrow && eqb d 1) in
      let p = one-le (arrow && eqb d 2) in
      let r = one-le (arrow && eqb d 3) in
      let v = one-le (arrow && eqb d 4) in
      let w = one-le (arrow && eqb d 5) in
      let h = one-le (eqb (place (counted_as x)) 1) in
      let o = one-le (eqb (place (counted_as x)) 2) in
      let b = heads-le (place (counted_as x)) in
      let t = one-le (eqb (place (counted_as x)) 3) in
      let m = one-le (eqb (place (counted_as x)) 4) in
      let i = one-le (eqb (place (counted_as x)) 5) in
      let f = one-le (eqb (place (counted_as x)) 6) in
      let y = one-le (eqb (place (counted_as x)) 7) in
      omega arith

-- a row adds at most its length to each count
under-from : (L : ℕ) (arrow : Cell → Bool) (k : ℕ) (s : RowSum) (c : ℕ) (r : Row) → Under k s → Under (k + length r) (sum_from L arrow s c r)
under-from L arrow k s c [] u = rw (sum-end L arrow s c) (under_more k (k + 0) s (omega arith) u)
under-from L arrow k s c (b ∷ r) u =
    rw (sum-next L arrow s c b r)
    (under_more (k + 1 + length r) (k + suc (length r)) _ (omega arith)
    (under-from L arrow (k + 1) (sum_with_cell s (direction L c) (cell_of b) (arrow (cell_of b))) (suc c) r (under-cell k s (direction L c) (arrow (cell_of b)) u (cell_of b))))

under-by : (arrow : Cell → Bool) (r : Row) → Under (length r) (row_sum_by arrow r)
under-by arrow r =
    rw (← sum-start arrow r)
    (under_more (0 + length r) (length r) _ (omega arith) (under-from (length r) arrow 0 empty_sum 0 r (omega arith)))

-- the counts of a row of at most n cells
pub under-row : (n : ℕ) (r : Row) → length r ≤ n → Under n (row_sum r)
unfolding row_sum
under-row n r h = under_more (length r) n _ h (under-by _ r)

pub under-judged : (n : ℕ) (judged : Bool) (r : Row) → length r ≤ n → Under n (judged_sum judged r)
unfolding judged_sum
under-judged n true r h = under_more (length r) n _ h (under-by is_judged_arrow r)
under-judged n false r h = omega (arith, count_by-le-length (λ b. is_unjudged_fake (cell_of b)) r)

module _ (k n : ℕ) (t : ArrowStats) (s : RowSum) (b : Below k t) (u : Under n s) (pos : 1 ≤ n) where
  -- a row adds at most n to each count of a tally
  pub below_row : Below (k + n) (tally_with_row t s)
  unfolding tally_with_row
  below_row =
      let a = one-le (leb 1 s.arrows) in
      let j = one-le (leb 2 s.arrows) in
      let h = one-le (leb 1 s.arrows && leb 3 (s.arrows + t.holding)) in
      omega arith

  pub below-judged : (judged : Bool) (held : ℕ) → Below (k + n) (judge_row t judged held s)
  unfolding judge_row
  below-judged judged held =
      let a = one-le (leb 1 s.arrows) in
      let j = one-le (leb 2 s.arrows) in
      let h = one-le (judged && (leb 1 (s.arrows + s.mines + s.fakes) && leb 3 (s.arrows + held))) in
      omega arith

-- a row of at most ten cells adds at most 10 to each
pub below-line : (k : ℕ) (t : ArrowStats) (r : Row) → length r ≤ 10 → Below k t → Below (k + 10) (tally_with_row t (row_sum r))
below-line k t r h b = below_row k 10 t (row_sum r) b (under-row 10 r h) (omega arith)

pub below-judged-line : (k : ℕ) (t : ArrowStats) (judged : Bool) (held : ℕ) (r : Row) → length r ≤ 10 → Below k t
    → Below (k + 10) (judge_row t judged held (judged_sum judged r))
below-judged-line k t judged held r h b =
    below-judged k 10 t (judged_sum judged r) b (under-judged 10 judged r h) (omega arith) judged held

pub below_none : Below 0 empty_stats
below_none = omega arith
