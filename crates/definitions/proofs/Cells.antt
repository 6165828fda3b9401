-- Cells go by eleven letters: what holds of each of them, and of every other byte, holds of each byte.
use mathlib.Core.Path.{◌≡◌, refl}
use mathlib.Core.Bool.{Bool, true, false, false≢true}
use mathlib.Core.List.{List, [], ◌∷◌}
use Prim.Native.Nat.{ℕ}
use borrow.Author.Tests.{eqb-true}
use lib.Dec.{eqb}
use Rattle.definitions.specs.Lists.{among}
use Rattle.definitions.specs.Cells.{cell_of}
use Rattle.definitions.specs.declared.Cell.TheVariants.{Empty}
use Rattle.definitions.proofs.Lists.{All, none, one}

-- 1 2 3 4 M L F K m l f
abbrev pub letters : List ℕ
letters = 49 ∷ 50 ∷ 51 ∷ 52 ∷ 77 ∷ 76 ∷ 70 ∷ 75 ∷ 109 ∷ 108 ∷ 102 ∷ []

-- b is none of these
abbrev pub Other : ℕ → List ℕ → Type 0
Other b ks = (k : ℕ) → among k ks ≡ true → eqb b k ≡ false

module _ (P : ℕ → Type 0) (b : ℕ) where
  among-cons : (k x : ℕ) (xs : List ℕ) → eqb b x ≡ false → (among k xs ≡ true → eqb b k ≡ false) → among k (x ∷ xs) ≡ true → eqb b k ≡ false
  among-cons k x xs e g h = split (eqb k x) refl
    where
      split : (t : Bool) → eqb k x ≡ t → eqb b k ≡ false
      split true p = rw (eqb-true k x p) e
      split false p = g (rw p at h)

  by-each : (ks : List ℕ) → All P ks → (Other b ks → P b) → P b
  by-each [] none f = f (λ k h. absurd (false≢true h))
  by-each (x ∷ xs) (one p ps) f = split (eqb b x) refl (by-each xs ps)
    where
      split : (t : Bool) → eqb b x ≡ t → ((Other b xs → P b) → P b) → P b
      split true e rest = rw (eqb-true b x e) p
      split false e rest = rest (λ g. f (λ k. among-cons k x xs e (g k)))

pub by-letter : (P : ℕ → Type 0) → All P letters → ((b : ℕ) → Other b letters → P b) → (b : ℕ) → P b
by-letter P here other b = by-each P b letters here (other b)

pub other-empty : (b : ℕ) → Other b letters → cell_of b ≡ Empty
unfolding cell_of
other-empty b h =
    rw (h 49 refl, h 50 refl, h 51 refl, h 52 refl, h 77 refl, h 76 refl, h 70 refl, h 75 refl, h 109 refl, h 108 refl, h 102 refl)
