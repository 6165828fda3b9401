-- Specification, Tap masks: the mask of a row of `0` and `1` alone, and the counts that the table has for it.
use Rattle.std.specs.Prelude.{Bool, ◌||◌, not, ◌≡◌, List, [], ◌∷◌, ℕ, ◌+◌, ◌*◌, ◌/◌, ◌%◌, ◌^◌, ◌<◌, ◌==◌, length, slice_index, if◌then◌else◌}
use Rattle.std.specs.Int.Bits.{bit_and}
use Rattle.definitions.specs.Lists.{sum_columns, number_of_bool}
use Rattle.definitions.specs.Lines.{Row}
use Rattle.definitions.specs.Tally.{empty_sum}
use Rattle.definitions.specs.declared.RowSum.{RowSum}
use Rattle.taps.specs.declared.Taps.{Taps}
use Rattle.taps.specs.declared.Taps.TheVariants.{Mask, Other}

-- the mask of a byte and the cells after it
abbrev pub with_bit : ℕ → Taps → Taps
with_bit b (Mask m) = if b == 48 then Mask (2 * m) else if b == 49 then Mask (1 + 2 * m) else Other
with_bit b Other = Other

-- "The mask of a row of `0` and `1` alone has a bit for each column, set where it has a 1, the first column the lowest."
unfoldable pub tap_mask : Row → Taps
tap_mask [] = Mask 0
tap_mask (b ∷ r) = with_bit b (tap_mask r)

-- the widths of rows that have masks
abbrev pub has_mask : ℕ → Bool
has_mask n = n == 4 || n == 8 || n == 5 || n == 10

unfoldable pub mask_of_line : Row → Taps
mask_of_line r = if has_mask (length r) then tap_mask r else Other

-- "Rows of 4 and 8 lanes alone use it.": rows of other widths are counted without it.
abbrev pub wide_row : ℕ → Bool
wide_row n = not (n == 4 || n == 8)

abbrev pub bit : ℕ → ℕ → ℕ
bit c m = m / 2 ^ c % 2

-- A row has this mask, and no tap of it stands in a column of `busy`.
pub record FreeTaps (busy m : ℕ) (r : Row) : Type 0 where
  pub mask : mask_of_line r ≡ Mask m
  pub free : (c : ℕ) → bit c m ≡ 1 → bit c busy ≡ 0

-- a mask that has no bit in common with `busy`
abbrev pub free_of : ℕ → Taps → Taps
free_of busy (Mask m) = if bit_and m busy == 0 then Mask m else Other
free_of busy Other = Other

-- The mask of a row that has one and no tap in a column of `busy`.
unfoldable pub taps_if_free : ℕ → Row → Taps
taps_if_free busy r = free_of busy (mask_of_line r)

-- of ten numbers, those whose place has no bit in `busy` are n
abbrev pub FreeAre : ℕ → ℕ → List ℕ → Type 0
FreeAre busy n l = (c : ℕ) → c < 10 → bit c busy ≡ 0 → slice_index l c ≡ n

-- A mask of columns: r is `busy` with the bit of column i as told.
pub record Marked (busy i : ℕ) (used : Bool) (r : ℕ) : Type 0 where
  pub here : bit i r ≡ number_of_bool used
  pub others : (c : ℕ) → c < 10 → (c ≡ i → ⊥) → bit c r ≡ bit c busy

-- the ones of a mask in the columns of a direction
abbrev pub towards : ℕ → ℕ → ℕ
towards d m = bit d m + bit (d + 4) m + bit (d + 8) m

-- "in bits 0 to 3 how many bits the mask has, from bit 4 on two bits for each of the directions 0 to 3, in their order", of up to ten columns
unfoldable pub mask_counts : ℕ → ℕ
mask_counts m =
    sum_columns 10 (λ c. bit c m)
    + (2 ^ 4 * towards 0 m + 2 ^ 6 * towards 1 m + 2 ^ 8 * towards 2 m + 2 ^ 10 * towards 3 m)

-- A mask's counts by a list: its entry, or for wide rows those of its first five columns and, from 32 on, of its next five.
abbrev pub counts_in : Bool → List ℕ → ℕ → ℕ
counts_in wide l m = if wide then slice_index l (m % 32) + slice_index l (32 + m / 32) else slice_index l m

-- How many masks a table counts: those of up to ten columns, or of eight where it is `TAP_MASK_COUNTS`.
abbrev pub masks : Bool → ℕ
masks wide = if wide then 1024 else 256

-- a list that tells what each of these masks counts up to
abbrev pub CountsMasks : Bool → List ℕ → Type 0
CountsMasks wide l = (m : ℕ) → m < masks wide → counts_in wide l m ≡ mask_counts m

-- the row's sum that the counts stand for
unfoldable pub unpack : ℕ → RowSum
unpack n =
    record empty_sum {
      arrows = n % 16;
      left = n / 16 % 4;
      down = n / 64 % 4;
      up = n / 256 % 4;
      right = n / 1024 % 4;
    }
