-- Specification, Row beats and Last beat, on the library's account of IEEE 754. `num x / den x` is the size of the float x as a fraction.
use Rattle.std.specs.Prelude.{false, List, [], ◌∷◌, ℕ, zero, suc, ◌+◌, ◌*◌, pos, Float, length}
use Rattle.std.specs.Float.{binary32, binary64}
use Rattle.std.specs.Float.Ieee.{of_int, round, add, mul, div}
use Rattle.std.specs.Float.Ieee.Positive.{num, den}
use Rattle.std.specs.Float.Ieee.Nearest.{closest}
use Rattle.definitions.specs.Lists.{joined}
use Rattle.definitions.specs.Lines.{Row}
use Rattle.definitions.specs.Reduction.{minimised}

-- whole numbers as floats
abbrev pub f32 : ℕ → Float
f32 n = of_int binary32 (pos n)

-- the same as a 64-bit float
abbrev pub f64 : ℕ → Float
f64 n = of_int binary64 (pos n)

-- "The step is 4 / n as a 32-bit float."
unfoldable pub step : ℕ → Float
step n = div binary32 (f32 4) (f32 n)

-- r × x + a "worked out exactly and then rounded once, to the nearest 32-bit float, ties to even" (`mul_add`), for a float x that is finite and not
-- negative
unfoldable pub fused : ℕ → Float → ℕ → Float
fused r x a = round binary32 false (r * num x + a * den x) (den x)

-- "The beat is r × step + 4 × m"
unfoldable pub beat_of_row : ℕ → ℕ → ℕ → Float
beat_of_row m r n = fused r (step n) (4 * m)

-- The beats of k rows of n in measure m, from row r on. "Each minimised row has a beat, a 32-bit float: for row r of the n minimised rows of measure
-- m it is worked out from m, r and n."
abbrev pub row_beats : ℕ → ℕ → ℕ → ℕ → List Float
row_beats m n r zero = []
row_beats m n r (suc k) = beat_of_row m r n ∷ row_beats m n (suc r) k

-- the row beats of each measure, of measures numbered from m
abbrev pub beats_from : ℕ → List (List Row) → List (List Float)
beats_from m [] = []
beats_from m (x ∷ xs) = row_beats m (length x) 0 (length x) ∷ beats_from (suc m) xs

-- the row beats of each measure of a text
unfoldable pub measure_beats : ℕ → List ℕ → List (List Float)
measure_beats L text = beats_from 0 (minimised L text)

-- of a text, "the beat of each minimised row"
unfoldable pub beats : ℕ → List ℕ → List Float
beats L text = joined (measure_beats L text)

-- "the beat is 4 × m + 4 × r / n in 64-bit floats, each operation rounded"
unfoldable pub beat : ℕ → ℕ → ℕ → Float
beat m r n = add binary64 (mul binary64 (f64 m) (f64 4)) (div binary64 (mul binary64 (f64 4) (f64 r)) (f64 n))

-- the whole number nearest to a float that is finite and not negative, "ties to even" (`lrint_f64`)
unfoldable pub whole : Float → ℕ
whole x = closest (num x) (den x)

-- "That beat times 48, a 64-bit float, is rounded to a whole number, ties to even": the last beat in 48ths
unfoldable pub last_row : ℕ → ℕ → ℕ → ℕ
last_row m r n = whole (mul binary64 (beat m r n) (f64 48))

-- "The last beat is this number divided by 48, a 64-bit float." (`note_row_to_beat`)
unfoldable pub row_to_beat : ℕ → Float
row_to_beat k = div binary64 (f64 k) (f64 48)
