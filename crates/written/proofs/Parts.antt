-- A list at a place: what stands before it, the element there, and what follows.
use mathlib.Core.Path.{◌≡◌, refl, ap, ◌∙◌}
use mathlib.Core.List.{List, [], ◌∷◌, ◌++◌}
use Prim.Native.Nat.{ℕ, zero, suc, ◌+◌, ◌≤◌, ◌<◌}
use native.Mathlib.Omega.{arith}
use lib.ListN.{length, take, drop, get_or}

module _ {A : Type 0} where
  pub drop-next : (l : List A) (i : ℕ) (d : A) → i < length l → drop i l ≡ get_or l i d ∷ drop (i + 1) l
  drop-next [] i d h = absurd (omega arith)
  drop-next (x ∷ l) zero d h = refl
  drop-next (x ∷ l) (suc i) d h =
      let e : suc (i + 1) ≡ suc i + 1 = omega arith in
      drop-next l i d (omega arith) ∙ ap (λ k. get_or l i d ∷ drop k (x ∷ l)) e

  pub take-next : (l : List A) (i : ℕ) (d : A) → i < length l → take (i + 1) l ≡ take i l ++ (get_or l i d ∷ [])
  take-next [] i d h = absurd (omega arith)
  take-next (x ∷ l) zero d h = refl
  take-next (x ∷ l) (suc i) d h =
      let e : suc i + 1 ≡ suc (i + 1) = omega arith in
      ap (λ k. take k (x ∷ l)) e ∙ ap (λ s. x ∷ s) (take-next l i d (omega arith))

  pub drop-end : (l : List A) (i : ℕ) → length l ≤ i → drop i l ≡ []
  drop-end [] zero h = refl
  drop-end [] (suc i) h = refl
  drop-end (x ∷ l) zero h = absurd (omega arith)
  drop-end (x ∷ l) (suc i) h = drop-end l i (omega arith)

  pub parts-of : (l : List A) (i : ℕ) → take i l ++ drop i l ≡ l
  parts-of [] zero = refl
  parts-of [] (suc i) = refl
  parts-of (x ∷ l) zero = refl
  parts-of (x ∷ l) (suc i) = ap (λ s. x ∷ s) (parts-of l i)
