-- How large the last beat of a text is: in 48ths, and by the bits of its float.
use Rattle.std.proofs.Common.{Bool, true, false, ℕ, suc, ◌+◌, ◌^◌, ◌<◌, ◌≤◌, List, [], ◌∷◌, length, length-append, arith}
use lib.Ieee.{binary64}
use lib.Ieee.Fits.{div-fits}
use lib.Ieee.Bits.{to_bits-lt}
use Rattle.definitions.specs.Sizes.{row_count_bound, measures_bound}
use Rattle.definitions.specs.Lists.{joined, only_if}
use Rattle.definitions.specs.Lines.{Row}
use Rattle.definitions.specs.Beats.{f64, row_to_beat}
use Rattle.definitions.specs.Objects.{Depths, Place, after_row, after_rows, object_row, objects_in, objects_from, last_of, last_object, place48, last48, last_beat_of}
use Rattle.definitions.specs.Entries.{measure_count, row_count, bits_of_last_beat}
use Rattle.definitions.specs.Reduction.{minimised}
use Rattle.definitions.proofs.Lists.{All, none, one, all_append}
use Rattle.beats.specs.Places.{Inside}
use Rattle.beats.proofs.Last.{row-most}

-- ---- In 48ths
abbrev Within : Place → Type 0
Within p = Inside p.m p.r p.n

within-measure : (D : Depths) (m r n : ℕ) (xs : List Row) → r + length xs ≤ n → n < row_count_bound → m ≤ measures_bound → All Within (objects_in D m r n xs)
within-measure D m r n [] h few w = none
within-measure D m r n (x ∷ xs) h few w = all_append (here (object_row D x)) (within-measure (after_row D x) m (suc r) n xs (omega arith) few w)
  where
    here : (t : Bool) → All Within (only_if t (record { m = m; r = r; n = n } ∷ []))
    here true = one (record { row = omega arith; rows = few; measure = w }) none
    here false = none

within-measures : (D : Depths) (m : ℕ) (ms : List (List Row)) → length (joined ms) < row_count_bound → m + length ms ≤ measures_bound + 1 → All Within (objects_from D m ms)
within-measures D m [] few w = none
within-measures D m (x ∷ xs) few w =
    all_append (within-measure D m 0 (length x) x (omega arith) (omega (arith, length-append x (joined xs))) (omega arith))
    (within-measures (after_rows D x) (suc m) xs (omega (arith, length-append x (joined xs))) (omega arith))

last-within : {l : List Place} → All Within l → place48 (last_of l) ≤ 2 ^ 39
last-within none = omega arith
last-within (one {a = p} i none) = row-most p.m p.r p.n i
last-within (one i (one j a)) = last-within (one j a)

pub last48-most : (L : ℕ) (text : List ℕ) → row_count L text < row_count_bound → measure_count L text ≤ measures_bound + 1 → last48 L text ≤ 2 ^ 39
unfolding last48 last_object
last48-most L text few w = last-within (within-measures (λ c. 0) 0 (minimised L text) few (omega arith))

-- ---- By its bits
pub last_bits-most : (L : ℕ) (text : List ℕ) → bits_of_last_beat L text < 2 ^ 64
unfolding last_beat_of row_to_beat
last_bits-most L text = to_bits-lt binary64 (row_to_beat (last48 L text)) (div-fits binary64 (f64 (last48 L text)) (f64 48))
