-- A mask's counts are its row's sum.
use mathlib.Core.Path.{◌≡◌, refl, ap, ap₂, sym, subst, ◌∙◌}
use mathlib.Core.Bool.{Bool, true, false, cond, ◌&&◌}
use mathlib.Core.List.{[], ◌∷◌}
use Prim.Native.Nat.{ℕ, zero, suc, ◌+◌, ◌*◌, ◌-◌, ◌/◌, ◌%◌, ◌^◌, ◌<◌, ◌≤◌}
use native.Mathlib.Nat.{suc-add, pow-suc, div-one, div-div-eq-div-mul, div-eq_of_lt, pow-le-pow_right}
use native.Mathlib.Omega.{arith}
use lib.Dec.{eqb}
use lib.ListN.{length}
use borrow.Author.Tests.{ne_eqb}
use Rattle.definitions.specs.Lines.{Row}
use Rattle.definitions.specs.Cells.{cell_of, is_arrow}
use Rattle.std.specs.List.{count_by}
use Rattle.definitions.specs.Lists.{number_of_bool, sum_columns}
use Rattle.definitions.proofs.Lists.{count-cons}
use Rattle.definitions.specs.declared.Cell.{Cell}
use Rattle.definitions.specs.declared.Cell.TheVariants.{Empty, Tap}
use Rattle.definitions.specs.Tally.{counted_as, place, count_from, direction, arrows_towards, empty_sum, row_sum_by, row_sum}
use Rattle.taps.specs.Taps.{tap_mask, mask_of_line, bit, towards, mask_counts, unpack}
use Rattle.taps.specs.declared.Taps.TheVariants.{Mask}
use Rattle.taps.proofs.Masks.{parts, mask_lt, width-fours, line-told, line-taps, line-width}

-- the row of a mask
abbrev pub row_of : ℕ → ℕ → Row
row_of zero m = []
row_of (suc w) m = (48 + m % 2) ∷ row_of w (m / 2)

row-wide : (w m : ℕ) → length (row_of w m) ≡ w
row-wide zero m = refl
row-wide (suc w) m = ap suc (row-wide w (m / 2))

row_back : (r : Row) (m : ℕ) → tap_mask r ≡ Mask m → r ≡ row_of (length r) m
unfolding tap_mask
row_back [] m e = refl
row_back (b ∷ r) m e =
    let s = parts b (tap_mask r) m e in
    let low : b ≡ 48 + m % 2 = omega arith in
    let high : s.rest ≡ m / 2 = omega arith in
    ap₂ (λ (x : ℕ) (l : Row). x ∷ l) low (row_back r s.rest s.after ∙ ap (row_of (length r)) high)

-- ---- The sum of a mask's row

-- the bits of a mask in the w columns from c on that q takes
abbrev sum_bits : (ℕ → Bool) → ℕ → ℕ → ℕ → ℕ
sum_bits q m c zero = 0
sum_bits q m c (suc w) = cond (q c) (bit c m) 0 + sum_bits q m (suc c) w

none-taken : (t : Bool) → ◌≡◌ {A = ℕ} (cond t 0 0) 0
none-taken true = refl
none-taken false = refl

-- a cell of a row of taps counts by its bit, where a test fails on a `0`
one_bit : (b : ℕ) (f : Cell → Bool) (t : Bool) → b ≤ 1 → f Empty ≡ false → f Tap ≡ t → number_of_bool (f (cell_of (48 + b))) ≡ cond t b 0
unfolding cell_of
one_bit zero f t h e k = ap number_of_bool e ∙ sym (none-taken t)
one_bit (suc zero) f true h e k = ap number_of_bool k
one_bit (suc zero) f false h e k = ap number_of_bool k
one_bit (suc (suc b)) f t h e k = absurd (omega arith)

halved : (m c : ℕ) → m / 2 ^ c / 2 ≡ m / 2 ^ suc c
halved m c = div-div-eq-div-mul m (2 ^ c) 2 ∙ ap (λ n. m / n) (sym (pow-suc 2 c))

-- what a test of column and cell counts in a mask's row
module _ (p : ℕ → Cell → Bool) (q : ℕ → Bool) (zeros : (c : ℕ) → p c Empty ≡ false) (ones : (c : ℕ) → p c Tap ≡ q c) (m : ℕ) where
  counts-from : (c w : ℕ) → count_from p c (row_of w (m / 2 ^ c)) ≡ sum_bits q m c w
  counts-from c zero = refl
  counts-from c (suc w) =
      ap₂ ◌+◌
      (one_bit (bit c m) (p c) (q c) (omega arith) (zeros c) (ones c))
      (ap (λ n. count_from p (suc c) (row_of w n)) (halved m c) ∙ counts-from (suc c) w)

-- a test that fails on `0` and `1` counts nothing
counts-none : (p : ℕ → Bool) → p 48 ≡ false → p 49 ≡ false → (w m : ℕ) → count_by p (row_of w m) ≡ 0
counts-none p e k zero m = refl
counts-none p e k (suc w) m = count-cons p (48 + m % 2) (row_of w (m / 2)) ∙ ap₂ ◌+◌ (go (m % 2) (omega arith)) (counts-none p e k w (m / 2))
  where
    go : (b : ℕ) → b ≤ 1 → number_of_bool (p (48 + b)) ≡ 0
    go zero h = ap number_of_bool e
    go (suc zero) h = ap number_of_bool k
    go (suc (suc b)) h = absurd (omega arith)

-- past its highest bit a mask has none
module _ (q : ℕ → Bool) (m : ℕ) where
  none_above : (c k : ℕ) → m < 2 ^ c → 0 ≡ sum_bits q m c k
  none_above c zero h = refl
  none_above c (suc k) h =
      let low : bit c m ≡ 0 = ap (λ n. n % 2) (div-eq_of_lt h) in
      let first : cond (q c) (bit c m) 0 ≡ 0 = ap (λ n. cond (q c) n 0) low ∙ none-taken (q c) in
      let rest = none_above (suc c) k (omega (arith, pow-suc 2 c)) in
      omega arith

  to-ten : (c w k : ℕ) → m < 2 ^ (c + w) → sum_bits q m c w ≡ sum_bits q m c (w + k)
  to-ten c zero k h = none_above c (0 + k) (subst (λ n. m < 2 ^ n) (omega arith) h)
  to-ten c (suc w) k h =
      ap (λ n. cond (q c) (bit c m) 0 + n) (to-ten (suc c) w k (subst (λ n. m < 2 ^ n) (omega arith) h))
      ∙ ap (sum_bits q m c) (sym (suc-add w k))

  few_bits : (c w : ℕ) → sum_bits q m c w ≤ w
  few_bits c zero = omega arith
  few_bits c (suc w) =
      let first : cond (q c) (bit c m) 0 ≤ 1 = go (q c) in
      omega (arith, few_bits (suc c) w)
    where
      go : (t : Bool) → cond t (bit c m) 0 ≤ 1
      go true = omega arith
      go false = omega arith

low-two : (x y : ℕ) {n : ℕ} → x ≤ 3 → n ≡ x + 4 * y → n % 4 ≡ x
low-two x y h e = omega arith

-- the row's sum, of numbers that are small enough for their places
packed : (a l d u r : ℕ) → a ≤ 10 → l ≤ 3 → d ≤ 3 → u ≤ 3 → r ≤ 3
    → record empty_sum { arrows = a; left = l; down = d; up = u; right = r }
    ≡ unpack (a + (2 ^ 4 * l + 2 ^ 6 * d + 2 ^ 8 * u + 2 ^ 10 * r))
unfolding unpack
packed a l d u r h₁ h₂ h₃ h₄ h₅ =
    let n = a + (2 ^ 4 * l + 2 ^ 6 * d + 2 ^ 8 * u + 2 ^ 10 * r) in
    let q₁ : n / 16 ≡ l + 4 * d + 16 * u + 64 * r = omega arith in
    let q₂ : n / 64 ≡ d + 4 * u + 16 * r = omega arith in
    let q₃ : n / 256 ≡ u + 4 * r = omega arith in
    let q₄ : n / 1024 ≡ r = omega arith in
    let e₁ : a ≡ n % 16 = omega arith in
    let e₂ : l ≡ n / 16 % 4 = sym (ap (λ k. k % 4) q₁ ∙ low-two l (d + 4 * u + 16 * r) h₂ (omega arith)) in
    let e₃ : d ≡ n / 64 % 4 = sym (ap (λ k. k % 4) q₂ ∙ low-two d (u + 4 * r) h₃ (omega arith)) in
    let e₄ : u ≡ n / 256 % 4 = sym (ap (λ k. k % 4) q₃ ∙ low-two u r h₄ (omega arith)) in
    let e₅ : r ≡ n / 1024 % 4 = sym (ap (λ k. k % 4) q₄ ∙ low-two r 0 h₅ (omega arith)) in
    cc

-- the sum of a mask's row, at each width up to 10
module _ (w m : ℕ) (short : w ≤ 10) (few : m < 2 ^ w) where
  counts : (p : ℕ → Cell → Bool) (q : ℕ → Bool) → ((c : ℕ) → p c Empty ≡ false) → ((c : ℕ) → p c Tap ≡ q c) → count_from p 0 (row_of w m) ≡ sum_bits q m 0 10
  counts p q e k =
      let all : w + (10 - w) ≡ 10 = omega arith in
      ap (λ n. count_from p 0 (row_of w n)) (sym (div-one m))
      ∙ counts-from p q e k m 0 w
      ∙ to-ten q m 0 w (10 - w) (subst (λ n. m < 2 ^ n) (omega arith) few)
      ∙ ap (sum_bits q m 0) all

  below : m < 1024
  below = omega (arith, pow-le-pow_right {n = 2} (omega arith) short)

  ten-bits : sum_bits (λ c. true) m 0 10 ≡ sum_columns 10 (λ c. bit c m)
  ten-bits = go (bit 0 m) (bit 1 m) (bit 2 m) (bit 3 m) (bit 4 m) (bit 5 m) (bit 6 m) (bit 7 m) (bit 8 m) (bit 9 m)
    where
      go : (a b c d e f g h i j : ℕ) → a + (b + (c + (d + (e + (f + (g + (h + (i + (j + 0))))))))) ≡ 0 + a + b + c + d + e + f + g + h + i + j
      go a b c d e f g h i j = omega arith

  -- the columns of each direction; there is no eleventh and no twelfth
  lefts : sum_bits (λ c. eqb (c % 4) 0) m 0 10 ≡ towards 0 m
  lefts = go (bit 0 m) (bit 4 m) (bit 8 m)
    where
      go : (x y z : ℕ) → x + (0 + (0 + (0 + (y + (0 + (0 + (0 + (z + (0 + 0))))))))) ≡ x + y + z
      go x y z = omega arith

  downs : sum_bits (λ c. eqb (c % 4) 1) m 0 10 ≡ towards 1 m
  downs = go (bit 1 m) (bit 5 m) (bit 9 m)
    where
      go : (x y z : ℕ) → 0 + (x + (0 + (0 + (0 + (y + (0 + (0 + (0 + (z + 0))))))))) ≡ x + y + z
      go x y z = omega arith

  ups : sum_bits (λ c. eqb (c % 4) 2) m 0 10 ≡ towards 2 m
  ups = go (bit 2 m) (bit 6 m) (bit 10 m) (ap (λ n. n % 2) (div-eq_of_lt below))
    where
      go : (x y z : ℕ) → z ≡ 0 → 0 + (0 + (x + (0 + (0 + (0 + (y + (0 + (0 + (0 + 0))))))))) ≡ x + y + z
      go x y z h = omega arith

  rights : sum_bits (λ c. eqb (c % 4) 3) m 0 10 ≡ towards 3 m
  rights = go (bit 3 m) (bit 7 m) (bit 11 m) (ap (λ n. n % 2) (div-eq_of_lt (omega (arith, below))))
    where
      go : (x y z : ℕ) → z ≡ 0 → 0 + (0 + (0 + (x + (0 + (0 + (0 + (y + (0 + (0 + 0))))))))) ≡ x + y + z
      go x y z h = omega arith

  few-towards : (d : ℕ) → towards d m ≤ 3
  few-towards d = go (bit d m) (bit (d + 4) m) (bit (d + 8) m) (omega arith) (omega arith) (omega arith)
    where
      go : (x y z : ℕ) → x ≤ 1 → y ≤ 1 → z ≤ 1 → x + y + z ≤ 3
      go x y z h k l = omega arith

  pub counts-few : mask_counts m < 4096
  unfolding mask_counts
  counts-few =
      go (sum_columns 10 (λ c. bit c m)) (towards 0 m) (towards 1 m) (towards 2 m) (towards 3 m)
      (subst (λ n. n ≤ 10) ten-bits (few_bits (λ c. true) m 0 10)) (few-towards 0) (few-towards 1) (few-towards 2) (few-towards 3)
    where
      go : (a l d u r : ℕ) → a ≤ 10 → l ≤ 3 → d ≤ 3 → u ≤ 3 → r ≤ 3 → a + (2 ^ 4 * l + 2 ^ 6 * d + 2 ^ 8 * u + 2 ^ 10 * r) < 4096
      go a l d u r h₁ h₂ h₃ h₄ h₅ = omega arith

  -- of a width whose columns go by fours
  module _ (fours : eqb w 6 ≡ false) where
    by-fours : (c : ℕ) → direction (length (row_of w m)) c ≡ c % 4
    unfolding direction
    by-fours c = rw (row-wide w m, fours) refl

    ways : (d : ℕ) (q : ℕ → Bool) → ((c : ℕ) → eqb (c % 4) d ≡ q c) → arrows_towards d is_arrow (row_of w m) ≡ sum_bits q m 0 10
    ways d q e =
        counts (λ c x. is_arrow x && eqb (direction (length (row_of w m)) c) d) q (λ c. refl) (λ c. ap (λ k. eqb k d) (by-fours c) ∙ e c)

    pub sum_row : row_sum (row_of w m) ≡ unpack (mask_counts m)
    unfolding row_sum row_sum_by mask_counts cell_of
    sum_row =
        rw (
          counts (λ c x. is_arrow x) (λ c. true) (λ c. refl) (λ c. refl) ∙ ten-bits,
          ways 0 (λ c. eqb (c % 4) 0) (λ c. refl) ∙ lefts,
          ways 1 (λ c. eqb (c % 4) 1) (λ c. refl) ∙ downs,
          ways 2 (λ c. eqb (c % 4) 2) (λ c. refl) ∙ ups,
          ways 3 (λ c. eqb (c % 4) 3) (λ c. refl) ∙ rights,
          ways 4 (λ c. false) (λ c. ne_eqb (c % 4) 4 (λ q. omega arith)),
          ways 5 (λ c. false) (λ c. ne_eqb (c % 4) 5 (λ q. omega arith)),
          others 1 refl,
          others 2 refl,
          others 3 refl,
          others 4 refl,
          others 5 refl,
          others 6 refl,
          others 7 refl,
        )
        (packed (sum_columns 10 (λ c. bit c m)) (towards 0 m) (towards 1 m) (towards 2 m) (towards 3 m)
        (subst (λ n. n ≤ 10) ten-bits (few_bits (λ c. true) m 0 10)) (few-towards 0) (few-towards 1) (few-towards 2) (few-towards 3))
      where
        -- a tap is counted as an arrow and as nothing else
        others : (k : ℕ) → eqb 0 k ≡ false → count_by (λ b. eqb (place (counted_as (cell_of b))) k) (row_of w m) ≡ 0
        others k n = counts-none _ n n w m

-- A row of taps alone adds up to what its mask's counts stand for, where its columns go by fours.
tap-row-sum : (r : Row) (m : ℕ) → length r ≤ 10 → eqb (length r) 6 ≡ false → tap_mask r ≡ Mask m → row_sum r ≡ unpack (mask_counts m)
tap-row-sum r m h fours e = ap row_sum (row_back r m e) ∙ sum_row (length r) m h (mask_lt r m e) fours

-- every mask is that of a row of ten cells
pub mask-row : (m : ℕ) → m < 1024 → row_sum (row_of 10 m) ≡ unpack (mask_counts m)
mask-row m h = sum_row 10 m (omega arith) h refl

-- and so the sum of a row of a width that has masks
pub tap-line-sum : (r : Row) (m : ℕ) → mask_of_line r ≡ Mask m → row_sum r ≡ unpack (mask_counts m)
tap-line-sum r m e = tap-row-sum r m (line-width r m e).1 (width-fours (length r) (line-told r m e).0) (line-taps r m e)
