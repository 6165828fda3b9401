-- Filters of a list, and what holds of all that stands at a place.
use mathlib.Core.Path.{◌≡◌, refl, sym, ◌∙◌}
use mathlib.Core.Bool.{Bool, true, false, ◌&&◌, not, false≢true, cond}
use mathlib.Core.List.{List, [], ◌∷◌}
use Prim.Native.Nat.{ℕ}
use borrow.Author.Tests.{eq-eqb}
use lib.Dec.{eqb}
use Rattle.std.specs.List.{filter}
use Rattle.definitions.proofs.Lists.{All, none, one}

pub not-true : (b : Bool) → (b ≡ true → ⊥) → not b ≡ true
not-true true h = absurd (h refl)
not-true false h = refl

module _ {A : Type 0} where
  pub each : {P : A → Type 0} → ((a : A) → P a) → (l : List A) → All P l
  each f [] = none
  each f (a ∷ l) = one (f a) (each f l)

  pub in-filter : {P : A → Type 0} (q : A → Bool) {l : List A} → All P l → All P (filter q l)
  in-filter q none = none
  in-filter {P} q (one {a = a} {l = l} h t) = go (q a) (in-filter q t)
    where
      go : (u : Bool) → All P (filter q l) → All P (cond u (a ∷ filter q l) (filter q l))
      go true r = one h r
      go false r = r

  -- a filter that p is stricter than does not show under p
  pub under : (p q : A → Bool) {l : List A} → All (λ a. p a ≡ true → q a ≡ true) l → filter p (filter q l) ≡ filter p l
  under p q none = refl
  under p q (one {a = a} {l = l} h t) = go (q a) (p a) refl refl (under p q t)
    where
      go : (u v : Bool) → q a ≡ u → p a ≡ v → filter p (filter q l) ≡ filter p l → filter p (filter q (a ∷ l)) ≡ filter p (a ∷ l)
      go true v e f r = rw (e, r)
      go false true e f r = absurd (false≢true (sym e ∙ h f))
      go false false e f r = rw (e, f) r

  head-in : {P : A → Type 0} (q : A → Bool) (a : A) (l : List A) → q a ≡ true → All P (filter q (a ∷ l)) → P a
  head-in q a l e h = first (rw e at h)
    where
      first : {P : A → Type 0} {b : A} {m : List A} → All P (b ∷ m) → P b
      first (one g t) = g

  tail-in : {P : A → Type 0} (q : A → Bool) (a : A) (l : List A) → All P (filter q (a ∷ l)) → All P (filter q l)
  tail-in {P} q a l h = go (q a) refl
    where
      rest : {b : A} {m : List A} → All P (b ∷ m) → All P m
      rest (one g t) = t

      go : (u : Bool) → q a ≡ u → All P (filter q l)
      go true e = rest (rw e at h)
      go false e = rw e at h

  -- what holds of all that stands at each open place, by its row and column, holds of each that stands at one
  module _ (row column : A → ℕ) where
    abbrev pub here : ℕ → ℕ → A → Bool
    here i c x = eqb (row x) i && eqb (column x) c

    pub by-place : {Q : A → Type 0} (opens : ℕ → ℕ → Bool) (l : List A) → ((i c : ℕ) → opens i c ≡ true → All Q (filter (here i c) l))
        → All (λ x. opens (row x) (column x) ≡ true → Q x) l
    by-place opens [] h = none
    by-place opens (x ∷ l) h =
        one (λ e. head-in (here (row x) (column x)) x l (rw (eq-eqb (row x) (row x) refl, eq-eqb (column x) (column x) refl)) (h (row x) (column x) e))
        (by-place opens l (λ i c e. tail-in (here i c) x l (h i c e)))
