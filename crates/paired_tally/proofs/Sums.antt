-- What a row adds up to with one cell more, where a `0` stood.
use mathlib.Core.Path.{◌≡◌, refl, ap, ◌∙◌}
use mathlib.Core.Bool.{Bool, true, false, ◌&&◌}
use mathlib.Core.List.{[], ◌∷◌}
use Prim.Native.Nat.{ℕ, zero, suc, ◌+◌, ◌<◌}
use native.Mathlib.Nat.{zero-add, add-zero, add_assoc}
use native.Mathlib.Omega.{arith}
use lib.Dec.{eqb}
use lib.ListN.{length, get_or, set, length-set}
use Rattle.std.specs.List.{count_by}
use Rattle.definitions.specs.Lists.{number_of_bool}
use Rattle.definitions.specs.Lines.{Row}
use Rattle.definitions.specs.Cells.{cell_of, is_arrow}
use Rattle.definitions.specs.Tally.{counted_as, place, count_from, direction, row_sum_by, row_sum, empty_sum}
use Rattle.definitions.specs.Judged.{is_judged_arrow, is_unjudged_fake, judged_sum}
use Rattle.definitions.specs.declared.Cell.{Cell}
use Rattle.definitions.specs.declared.Cell.TheVariants.{Empty, Tail}
use Rattle.definitions.specs.declared.RowSum.{RowSum}
use Rattle.definitions.specs.declared.ArrowStats.{ArrowStats}
use Rattle.definitions.proofs.Lists.{count-cons}
use Rattle.row_tally.specs.Sums.{sum_with_cell}
use Rattle.row_tally.specs.Raised.{with_cells}
use Rattle.row_tally.proofs.Raised.{cells-next}
use Rattle.paired_tally.specs.Paired.{kind_sum}
use Rattle.paired_tally.specs.Cells.{add_kind}

-- counts over columns and over bytes
from-set : (p : ℕ → Cell → Bool) (c k b : ℕ) (r : Row) → k < length r → p (c + k) (cell_of (get_or r k 0)) ≡ false
    → count_from p c (set r k b) ≡ count_from p c r + number_of_bool (p (c + k) (cell_of b))
from-set p c k b [] h e = absurd (omega arith)
from-set p c zero b (x ∷ r) h e =
    let z : c + 0 ≡ c = omega arith in
    let f : number_of_bool (p c (cell_of x)) ≡ 0 = ap number_of_bool (rw z at e) in
    let g : number_of_bool (p (c + 0) (cell_of b)) ≡ number_of_bool (p c (cell_of b)) = rw z in
    omega arith
from-set p c (suc k) b (x ∷ r) h e =
    let z : c + suc k ≡ suc c + k = omega arith in
    let f = from-set p (suc c) k b r (omega arith) (rw z at e) in
    let g : number_of_bool (p (c + suc k) (cell_of b)) ≡ number_of_bool (p (suc c + k) (cell_of b)) = rw z in
    omega arith

-- a count that asks for no column is one over bytes
by-bytes : (f : Cell → Bool) (c : ℕ) (r : Row) → count_from (λ c x. f x) c r ≡ count_by (λ b. f (cell_of b)) r
by-bytes f c [] = refl
by-bytes f c (b ∷ r) = omega (arith, by-bytes f (suc c) r, count-cons (λ b. f (cell_of b)) b r)

module _ (k b : ℕ) (r : Row) (h : k < length r) (e : cell_of (get_or r k 0) ≡ Empty) where
  arrows : (arrow : Cell → Bool) → arrow Empty ≡ false → count_from (λ c x. arrow x) 0 (set r k b) ≡ count_from (λ c x. arrow x) 0 r + number_of_bool (arrow (cell_of b))
  arrows arrow z = from-set (λ c x. arrow x) 0 k b r h (ap arrow e ∙ z)

  by-cell : (f : Cell → Bool) → f Empty ≡ false → count_by (λ x. f (cell_of x)) (set r k b) ≡ count_by (λ x. f (cell_of x)) r + number_of_bool (f (cell_of b))
  by-cell f z = rw (← by-bytes f 0 (set r k b), ← by-bytes f 0 r) (arrows f z)

  kinds : (n : ℕ) → eqb 0 n ≡ false → count_by (λ x. eqb (place (counted_as (cell_of x))) n) (set r k b)
      ≡ count_by (λ x. eqb (place (counted_as (cell_of x))) n) r + number_of_bool (eqb (place (counted_as (cell_of b))) n)
  kinds n z = by-cell (λ x. eqb (place (counted_as x)) n) z

  towards : (arrow : Cell → Bool) (L d : ℕ) → arrow Empty ≡ false
      → count_from (λ c x. arrow x && eqb (direction L c) d) 0 (set r k b)
      ≡ count_from (λ c x. arrow x && eqb (direction L c) d) 0 r + number_of_bool (arrow (cell_of b) && eqb (direction L k) d)
  towards arrow L d z =
      from-set (λ c x. arrow x && eqb (direction L c) d) 0 k b r h (ap (λ t. t && eqb (direction L (0 + k)) d) (ap arrow e ∙ z))
      ∙ ap (λ n. count_from (λ c x. arrow x && eqb (direction L c) d) 0 r + number_of_bool (arrow (cell_of b) && eqb (direction L n) d)) (zero-add k)

  sum-set : (arrow : Cell → Bool) → arrow Empty ≡ false
      → row_sum_by arrow (set r k b) ≡ sum_with_cell (row_sum_by arrow r) (direction (length r) k) (cell_of b) (arrow (cell_of b))
  unfolding row_sum_by sum_with_cell
  sum-set arrow z =
      rw (
        length-set r k b,
        arrows arrow z,
        towards arrow (length r) 0 z,
        towards arrow (length r) 1 z,
        towards arrow (length r) 2 z,
        towards arrow (length r) 3 z,
        towards arrow (length r) 4 z,
        towards arrow (length r) 5 z,
        kinds 1 refl,
        kinds 2 refl,
        kinds 3 refl,
        kinds 4 refl,
        kinds 5 refl,
        kinds 6 refl,
        kinds 7 refl,
      )

  -- a cell more in whatever row
  pub kind-set : (plain judged : Bool) → kind_sum plain judged (set r k b) ≡ add_kind plain judged (kind_sum plain judged r) (direction (length r) k) (cell_of b)
  unfolding row_sum judged_sum
  kind-set true judged = sum-set is_arrow refl
  kind-set false true = sum-set is_judged_arrow refl
  kind-set false false = rw (by-cell is_unjudged_fake refl)

-- ---- In a tally
pub kind-next : (plain judged : Bool) (t : ArrowStats) (s : RowSum) (d : ℕ) (x : Cell)
    → with_cells (with_cells t s) (add_kind plain judged empty_sum d x) ≡ with_cells t (add_kind plain judged s d x)
unfolding with_cells
kind-next true judged t s d x = cells-next t s false d x
kind-next false true t s d x = cells-next t s true d x
kind-next false false t s d x = simp (zero-add, add-zero, add_assoc)

-- an empty cell adds nothing to a row, and a tail nothing to a tally
pub kind-empty : (plain judged : Bool) (s : RowSum) (d : ℕ) → add_kind plain judged s d Empty ≡ s
unfolding sum_with_cell
kind-empty true judged s d = simp add-zero
kind-empty false true s d = simp add-zero
kind-empty false false s d = simp add-zero

pub kind-tail : (plain judged : Bool) (t : ArrowStats) (d : ℕ) → with_cells t (add_kind plain judged empty_sum d Tail) ≡ t
unfolding with_cells sum_with_cell
kind-tail true judged t d = simp add-zero
kind-tail false true t d = simp add-zero
kind-tail false false t d = simp add-zero

-- two sums in either order
swap : (a b c : ℕ) → a + b + c ≡ a + c + b
swap a b c = omega arith

pub cells-swap : (t : ArrowStats) (y s : RowSum) → with_cells (with_cells t y) s ≡ with_cells (with_cells t s) y
unfolding with_cells
cells-swap t y s =
    rw (
      swap t.total_arrows y.arrows s.arrows,
      swap t.left y.left s.left,
      swap t.down y.down s.down,
      swap t.up y.up s.up,
      swap t.right y.right s.right,
      swap t.mines y.mines s.mines,
      swap t.holds y.holds s.holds,
      swap t.rolls y.rolls s.rolls,
      swap t.lifts y.lifts s.lifts,
      swap t.fakes y.fakes s.fakes,
      swap t.keysounds y.keysounds s.keysounds,
      swap t.up_left y.up_left s.up_left,
      swap t.up_right y.up_right s.up_right,
    )
