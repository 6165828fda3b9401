-- Laws of the rows at the multiples of a stride, which are those that stay.
use mathlib.Core.Path.{◌≡◌, refl, ap, sym, ◌∙◌}
use mathlib.Core.Bool.{Bool, true, false}
use mathlib.Core.List.{List, [], ◌∷◌, ◌++◌, map, append_assoc}
use Prim.Native.Nat.{ℕ, suc, ◌+◌, ◌≤◌, ◌<◌}
use native.Mathlib.Nat.{add-zero, mod-eq_of_lt, add-mod_right}
use native.Mathlib.Omega.{arith}
use borrow.Author.Tests.{ne_eqb}
use lib.ListN.{length}
use Rattle.definitions.specs.Lists.{only_if}
use Rattle.definitions.specs.Lines.{Row}
use Rattle.definitions.specs.Reduction.{multiple, at_multiples}
pub use Rattle.definitions.proofs.Thinned.{reduce-all}

-- lists one after the other
pub at-append : (s i : ℕ) (xs ys : List Row) → at_multiples s i (xs ++ ys) ≡ at_multiples s i xs ++ at_multiples s (i + length xs) ys
at-append s i [] ys = rw (add-zero)
at-append s i (x ∷ xs) ys =
    ap (λ (l : List Row). only_if (multiple s i) (x ∷ []) ++ l)
    (at-append s (suc i) xs ys ∙ ap (λ (m : ℕ). at_multiples s (suc i) xs ++ at_multiples s m ys) place)
    ∙ sym (append_assoc (only_if (multiple s i) (x ∷ [])) (at_multiples s (suc i) xs) (at_multiples s (i + suc (length xs)) ys))
  where
    place : suc i + length xs ≡ i + suc (length xs)
    place = omega arith

-- the places repeat after s
pub at-period : (s i : ℕ) (rs : List Row) → at_multiples s (i + s) rs ≡ at_multiples s i rs
at-period s i [] = refl
at-period s i (r ∷ rs) =
    rw (add-mod_right i s)
    (ap (λ (l : List Row). only_if (multiple s i) (r ∷ []) ++ l) (ap (λ (m : ℕ). at_multiples s m rs) place ∙ at-period s (suc i) rs))
  where
    place : suc (i + s) ≡ suc i + s
    place = omega arith

-- none of the places between two multiples
pub at-between : (s i : ℕ) (rs : List Row) → 0 < i → i + length rs ≤ s → at_multiples s i rs ≡ []
at-between s i [] p h = refl
at-between s i (r ∷ rs) p h =
    let low : i < s = omega arith in
    rw (mod-eq_of_lt low, ne_eqb i 0 (λ e. omega arith)) (at-between s (suc i) rs (omega arith) (omega arith))

-- a function of each row
pub multiples-map : (f : Row → Row) (s i : ℕ) (rs : List Row) → at_multiples s i (map f rs) ≡ map f (at_multiples s i rs)
multiples-map f s i [] = refl
multiples-map f s i (r ∷ rs) = go (multiple s i) (multiples-map f s (suc i) rs)
  where
    go : (t : Bool) → at_multiples s (suc i) (map f rs) ≡ map f (at_multiples s (suc i) rs)
        → only_if t (f r ∷ []) ++ at_multiples s (suc i) (map f rs) ≡ map f (only_if t (r ∷ []) ++ at_multiples s (suc i) rs)
    go true e = ap (λ (l : List Row). f r ∷ l) e
    go false e = e
