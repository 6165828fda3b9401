-- A line of minimised text as it counts, and its first byte.
use mathlib.Core.Path.{◌≡◌, refl, ap}
use mathlib.Core.Bool.{Bool, true, false, cond}
use mathlib.Core.List.{List, [], ◌∷◌}
use Prim.Native.Nat.{ℕ, ◌+◌, ◌≤◌}
use native.Mathlib.Omega.{arith}
use lib.Dec.{eqb}
use lib.ListN.{length, take}
use Rattle.definitions.specs.ReadBack.{without_cr}

-- a line without its byte 13 is a front of it
pub trim-front : (l : List ℕ) → without_cr l ≡ take (length (without_cr l)) l
trim-front [] = refl
trim-front (b ∷ []) = go (eqb b 13)
  where
    go : (t : Bool) → cond t [] (b ∷ []) ≡ take (length (cond t [] (b ∷ []))) (b ∷ [])
    go true = refl
    go false = refl
trim-front (b ∷ b' ∷ s) = ap (λ l. b ∷ l) (trim-front (b' ∷ s))

pub trim-less : (l : List ℕ) → length (without_cr l) ≤ length l
trim-less [] = omega arith
trim-less (b ∷ []) = go (eqb b 13)
  where
    go : (t : Bool) → length (cond t [] (b ∷ [])) ≤ 1
    go true = omega arith
    go false = omega arith
trim-less (b ∷ b' ∷ s) = omega (arith, trim-less (b' ∷ s))

-- and at most one byte is off
pub trim-most : (l : List ℕ) → length l ≤ length (without_cr l) + 1
trim-most [] = omega arith
trim-most (b ∷ []) = go (eqb b 13)
  where
    go : (t : Bool) → 1 ≤ length (cond t [] (b ∷ [])) + 1
    go true = omega arith
    go false = omega arith
trim-most (b ∷ b' ∷ s) = omega (arith, trim-most (b' ∷ s))
