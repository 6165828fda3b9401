-- The pairs that end at a row, one row more at the end, and summed over the columns.
use mathlib.Core.Path.{◌≡◌, refl, ap, sym, ◌∙◌}
use mathlib.Core.Bool.{Bool, ◌&&◌}
use mathlib.Core.List.{List, [], ◌∷◌, ◌++◌}
use Prim.Native.Nat.{ℕ, zero, suc, ◌+◌, ◌≤◌, ◌<◌}
use native.Mathlib.Decide.{dec_lt}
use native.Mathlib.Omega.{arith}
use borrow.Author.Tests.{ne_eqb}
use lib.Dec.{eqb}
use lib.ListN.{length}
use Rattle.definitions.specs.Lists.{sum_columns}
use Rattle.definitions.specs.Lines.{Row}
use Rattle.definitions.specs.Cells.{byte_at}
use Rattle.definitions.specs.Tracker.{Pair, paired, hold_at, pairs}
use Rattle.definitions.specs.declared.DepthEffect.{DepthEffect}
use Rattle.definitions.specs.declared.DepthEffect.TheVariants.{Nothing, Blocks, Opens, Closes}
use Rattle.definitions.proofs.Lists.{All, none, one, all_map, count-append}
use Rattle.holds.specs.Tracks.{stack_after, ends_in, ends_at}
use Rattle.holds.proofs.Pairs.{pairs-snoc, count_none, Placed, placed}

-- a sum of the same numbers, and of none past column k
pub sum_same : (m : ℕ) (f g : ℕ → ℕ) → ((c : ℕ) → c < m → f c ≡ g c) → sum_columns m f ≡ sum_columns m g
sum_same zero f g h = refl
sum_same (suc m) f g h =
    let a = sum_same m f g (λ c l. h c (omega arith)) in
    let b = h m (omega arith) in
    omega arith

pub sum-beyond : (k m : ℕ) (f : ℕ → ℕ) → k ≤ m → ((c : ℕ) → k ≤ c → f c ≡ 0) → sum_columns m f ≡ sum_columns k f
sum-beyond k zero f h z = let e : k ≡ 0 = omega arith in rw e
sum-beyond k (suc m) f h z =
    elim (dec_lt m k) [
      | yes l ↦ let e : k ≡ suc m = omega arith in rw e
      | no l ↦
          let a = sum-beyond k m f (omega arith) z in
          let b = z m (omega arith) in
          omega arith
    ]

-- no pair of these ends at row i
pub none_end : (J : ℕ → Bool) (i : ℕ) {ps : List Pair} → All (λ p. p.tail ≡ i → ⊥) ps → ends_in J i ps ≡ 0
none_end J i a =
    count_none (λ (p : Pair). eqb p.tail i && J p.head)
    (all_map (λ p (n : p.tail ≡ i → ⊥). ap (λ b. b && J p.head) (ne_eqb p.tail i n)) a)

-- none of rows' pairs ends past them
pub ends-late : (J : ℕ → Bool) (rows : List Row) (c i : ℕ) → length rows ≤ i → ends_in J i (pairs rows c) ≡ 0
ends-late J rows c i h =
    none_end J i (all_map (λ p (q : Placed (length rows) p). λ e. let l = q.inside in omega arith) (placed rows c))

-- what a row's cell pairs with ends at that row
tail-here : (e : DepthEffect) (row : ℕ) (st : List ℕ) → All (λ p. p.tail ≡ row) (paired e row st)
tail-here Nothing row st = none
tail-here Blocks row st = none
tail-here Opens row st = none
tail-here Closes row [] = none
tail-here Closes row (h ∷ st) = one refl none

module _ (J : ℕ → Bool) (rows : List Row) (r : Row) where
  ends_snoc : (c i : ℕ) → ends_in J i (pairs (rows ++ (r ∷ [])) c)
      ≡ ends_in J i (pairs rows c) + ends_in J i (paired (hold_at (byte_at c r)) (length rows) (stack_after rows c))
  ends_snoc c i =
      ap (ends_in J i) (pairs-snoc rows r c)
      ∙ count-append (λ (p : Pair). eqb p.tail i && J p.head) (pairs rows c) (paired (hold_at (byte_at c r)) (length rows) (stack_after rows c))

  -- at any other row than the new one: as before
  pub ends-old : (i : ℕ) → (i ≡ length rows → ⊥) → ends_at J (rows ++ (r ∷ [])) i ≡ ends_at J rows i
  unfolding ends_at
  ends-old i n =
      sum_same 10 (λ c. ends_in J i (pairs (rows ++ (r ∷ [])) c)) (λ c. ends_in J i (pairs rows c))
      (λ c l.
      let a = ends_snoc c i in
      let b =
      none_end J i
      (all_map (λ p (q : p.tail ≡ length rows). λ e. n (sym e ∙ q)) (tail-here (hold_at (byte_at c r)) (length rows) (stack_after rows c))) in
      omega arith)
