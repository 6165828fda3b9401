-- The bit of a column in a mask.
use Rattle.std.specs.Prelude.{Bool, ℕ, ◌==◌}
use Rattle.taps.specs.Taps.{bit}

-- whether the mask has the bit of column c
abbrev pub bit_is_set : ℕ → ℕ → Bool
bit_is_set c m = bit c m == 1
