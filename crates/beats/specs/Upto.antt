-- What the contract of the private function `lrint_f64` asks of a float. `num x / den x` is its size as a fraction.
use Rattle.std.specs.Prelude.{ℕ, ◌*◌, ◌≤◌, false, Float}
use Rattle.std.specs.Float.Ieee.Exact.{HasValue}
use Rattle.std.specs.Float.Ieee.Positive.{num, den}

-- x is finite, not negative and at most B
pub record Upto (x : Float) (B : ℕ) : Type 0 where
  pub value : HasValue x false (num x) (den x)
  pub most : num x ≤ B * den x
