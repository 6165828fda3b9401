-- Measures whose rows are an even part of 4 beats.
use Rattle.std.specs.Prelude.{◌≡◌, ℕ, ◌*◌, ◌^◌, false, Float}
use Rattle.std.specs.Float.Ieee.Exact.{HasValue}
use Rattle.definitions.specs.Beats.{step}

-- every whole number up to this is a float of 32 bits exactly
abbrev pub exact_bound : ℕ
exact_bound = 16777216

-- in this many units of 2^-43 a step is exact
abbrev pub IsUnits : Float → ℕ → Type 0
IsUnits x units = HasValue x false units (2 ^ 43)

-- the step of n rows is s units of 2^-43, and n steps are 4 beats: 2^45 units
pub record EvenStep (n : ℕ) : Type 0 where
  pub units : ℕ
  pub value : IsUnits (step n) units
  pub whole : units * n ≡ 35184372088832
