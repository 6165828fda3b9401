-- The lowest bit of a mask of ten columns, and the rest of the mask.
use Rattle.std.specs.Prelude.{◌≡◌, Bool, not, ℕ, ◌<◌, ◌≤◌, ◌==◌}
use Rattle.taps.specs.Taps.{bit}

pub record LowOf (m column : ℕ) (tap : Bool) (rest : ℕ) : Type 0 where
  pub inside : column < 10
  pub tells : tap ≡ not (m == 0)
  pub none : m ≡ 0 → rest ≡ 0
  pub less : (m ≡ 0 → ⊥) → rest < m
  pub here : (m ≡ 0 → ⊥) → bit column m ≡ 1
  pub below : (c : ℕ) → c < column → bit c m ≡ 0
  pub small : rest < 1024
  pub low : (c : ℕ) → c ≤ column → bit c rest ≡ 0
  pub high : (c : ℕ) → c < 10 → column < c → bit c rest ≡ bit c m
