-- The answers of the exports as numbers: what the leaf's own definition gives, and for an input that the leaf does not take a number that it
-- never gives. Such a call writes nothing. `old` is what a lent slice held before the call.
use Rattle.std.specs.Prelude.{Option, Some, None, Bool, if◌then◌else◌, ◌&&◌, ◌||◌, List, [], ◌∷◌, ◌++◌, ℕ, ◌+◌, ◌*◌, ◌/◌, ◌%◌, ◌^◌, ◌==◌, nat_le, nat_lt, length, take, drop, Float}
use Rattle.std.specs.Float.{binary64}
use Rattle.std.specs.Float.Ieee.{to_bits}
use Rattle.definitions.specs.Sizes.{measures_bound, row_count_bound}
use Rattle.definitions.specs.Lanes.{is_lane_count}
use Rattle.definitions.specs.Lines.{Row}
use Rattle.definitions.specs.Reduction.{stride}
use Rattle.definitions.specs.Beats.{beat_of_row, row_beats, row_to_beat}
use Rattle.definitions.specs.Objects.{Place, place48}
use Rattle.definitions.specs.declared.Cell.{Cell}
use Rattle.definitions.specs.declared.Cell.TheVariants.{Empty, Tap, Hold, Tail, Roll, Mine, Lift, Fake, KeySound, LowerMine, LowerLift, LowerFake}
use Rattle.definitions.specs.declared.DepthEffect.{DepthEffect}
use Rattle.definitions.specs.declared.DepthEffect.TheVariants as effect
use Rattle.taps.specs.Taps.{tap_mask}
use Rattle.taps.specs.declared.Taps.{Taps}
use Rattle.taps.specs.declared.Taps.TheVariants.{Mask, Other}
use Rattle.reduction.specs.Rows.{rows_at, compacted}

-- the largest number of 64 bits: no place, stride or count of rows
abbrev pub no_answer : ℕ
no_answer = 18446744073709551615

-- the lane count that a number is
unfoldable pub lanes_number : ℕ → ℕ
lanes_number n = if is_lane_count n then n else no_answer

-- ---- Lines

abbrev pub number_of_found : Option ℕ → ℕ
number_of_found (Some k) = k
number_of_found None = no_answer

-- ---- Cells and masks

abbrev pub number_of_cell : Cell → ℕ
number_of_cell Empty = 0
number_of_cell Tap = 1
number_of_cell Hold = 2
number_of_cell Tail = 3
number_of_cell Roll = 4
number_of_cell Mine = 5
number_of_cell Lift = 6
number_of_cell Fake = 7
number_of_cell KeySound = 8
number_of_cell LowerMine = 9
number_of_cell LowerLift = 10
number_of_cell LowerFake = 11

abbrev pub number_of_effect : DepthEffect → ℕ
number_of_effect effect.Nothing = 0
number_of_effect effect.Blocks = 1
number_of_effect effect.Opens = 2
number_of_effect effect.Closes = 3

-- a mask is below 256
abbrev pub number_of_taps : Taps → ℕ
number_of_taps (Mask m) = m
number_of_taps Other = 256

-- the mask of a row's first n cells; 257 where it has fewer
unfoldable pub mask_number : ℕ → Row → ℕ
mask_number n row = if nat_lt (length row) n then 257 else number_of_taps (tap_mask (take n row))

-- ---- Measures

-- n rows of L bytes, L not 0, stand w bytes apart in `len` bytes from `start` on
unfoldable pub rows_in_bounds : ℕ → ℕ → ℕ → ℕ → ℕ → Bool
rows_in_bounds len start n w L = nat_lt 0 L && (nat_le L w && nat_le (start + n * w) len)

unfoldable pub stride_number : List ℕ → ℕ → ℕ → ℕ → ℕ → ℕ
stride_number text start n w L = if rows_in_bounds (length text) start n w L then stride (rows_at w L n (drop start text)) else no_answer

-- n blocks of w bytes stand there, n not 0 and a multiple of 2 ^ shift
unfoldable pub blocks_in_bounds : ℕ → ℕ → ℕ → ℕ → ℕ → Bool
blocks_in_bounds len start n shift w = nat_lt 0 n && (n % 2 ^ shift == 0 && rows_in_bounds len start n w w)

-- how many blocks stay
unfoldable pub compacted_number : List ℕ → ℕ → ℕ → ℕ → ℕ → ℕ
compacted_number text start n shift w = if blocks_in_bounds (length text) start n shift w then n / 2 ^ shift else no_answer

-- the text with them moved together
unfoldable pub compacted_text : List ℕ → ℕ → ℕ → ℕ → ℕ → List ℕ
compacted_text text start n shift w = if blocks_in_bounds (length text) start n shift w then compacted w n (2 ^ shift) start text else text

-- ---- Beats

-- measure m and a number n of rows, within the limits of an accepted text
unfoldable pub measure_fits : ℕ → ℕ → Bool
measure_fits m n = nat_le m measures_bound && nat_lt n row_count_bound

-- row r of the n rows of measure m
unfoldable pub row_fits : ℕ → ℕ → ℕ → Bool
row_fits m r n = nat_lt r n && measure_fits m n

-- 0 for a call that is taken, else 1
unfoldable pub beat_number : ℕ → ℕ → ℕ → ℕ
beat_number m r n = if row_fits m r n then 0 else 1

unfoldable pub beat_left : ℕ → ℕ → ℕ → List Float → List Float
beat_left m r n old = if row_fits m r n then beat_of_row m r n ∷ [] else old

-- a measure's beats have room in `len` places from `at` on
unfoldable pub beats_fit : ℕ → ℕ → ℕ → ℕ → Bool
beats_fit len at m n = nat_le (at + n) len && measure_fits m n

unfoldable pub beats_number : List Float → ℕ → ℕ → ℕ → ℕ
beats_number old at m n = if beats_fit (length old) at m n then 0 else 1

unfoldable pub beats_left : List Float → ℕ → ℕ → ℕ → List Float
beats_left old at m n = if beats_fit (length old) at m n then (take at old ++ row_beats m n 0 n) ++ drop (at + n) old else old

-- the last object row, none where n is 0
unfoldable pub last_place : ℕ → ℕ → ℕ → Option Place
last_place m r n = if n == 0 then None else Some (record { m = m; r = r; n = n })

unfoldable pub last_fits : ℕ → ℕ → ℕ → Bool
last_fits m r n = n == 0 || row_fits m r n

unfoldable pub last_number : ℕ → ℕ → ℕ → ℕ
last_number m r n = if last_fits m r n then 0 else 1

-- the last beat's bits, and the last beat in 48ths
abbrev pub numbers_of_last : Option Place → List ℕ
numbers_of_last p = to_bits binary64 (row_to_beat (place48 p)) ∷ place48 p ∷ []

unfoldable pub last_left : ℕ → ℕ → ℕ → List ℕ → List ℕ
last_left m r n old = if last_fits m r n then numbers_of_last (last_place m r n) else old
