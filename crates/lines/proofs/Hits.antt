-- Why the lowest bit of `byte_hits` stands in the first byte that is the one looked for, and that of `starts_plain` in the first byte not from 16 to 143: by induction over the word's bytes.
use Rattle.std.proofs.Common.{◌≡◌, ℕ, zero, suc, ◌+◌, ◌-◌, ◌*◌, ◌/◌, ◌%◌, ◌^◌, ◌<◌, ◌⊎◌, ◌≤◌, List, [], ◌∷◌, length, refl, sym, ap, ap₂, ◌∙◌, inl, inr, ⊎_elim, lt_of_le_of_lt, pow-suc, div-add-mod', mul-one, arith, lit<}
use native.Mathlib.Decide.{dec_lt}
use lib.Bits.{bit_and, bit_xor, and_block, and_zero_r, and_le_l, and_le_r, shifted_half, shifted_even}
use lib.Count.{count_trailing_zeros, under}
use borrow.Author.Tests.{lt-ltb, le-ltb, lt-leb, le-leb}
use Rattle.lines.specs.Words.{word_of, Bytes, first_in, first_below, first_outside}
use Rattle.lines.proofs.Bytes.{cap, each, hi, word_lt, small, xor_all, xor_bytes, xor_first, xor_is, xor-eight}

-- ---- trailing zeros

-- a number that is not 0 has fewer than it has digits
under-lt : (n k d : ℕ) → n % 2 ≡ d → (n ≡ 0 → ⊥) → ((n / 2 ≡ 0 → ⊥) → count_trailing_zeros k (n / 2) < k) → under d (count_trailing_zeros k (n / 2)) < suc k
under-lt n k zero e z ih = let h = ih (λ q. z (omega arith)) in omega arith
under-lt n k (suc d) e z ih = omega arith

pub trailing_lt : (k n : ℕ) → n < 2 ^ k → (n ≡ 0 → ⊥) → count_trailing_zeros k n < k
unfolding count_trailing_zeros
trailing_lt zero n h z = absurd (z (omega arith))
trailing_lt (suc k) n h z =
    let e = pow-suc 2 k in
    under-lt n k (n % 2) refl z (λ q. trailing_lt k (n / 2) (omega arith) q)

abbrev up : ℕ → ℕ → ℕ
up zero d = d
up (suc j) d = suc (up j d)

-- the bits of n bytes
abbrev bits : ℕ → ℕ
bits zero = 0
bits (suc n) = up 8 (bits n)

tz-up : (j d q : ℕ) → count_trailing_zeros (up j d) (q * 2 ^ j) ≡ up j (count_trailing_zeros d q)
unfolding count_trailing_zeros
tz-up zero d q = rw mul-one
tz-up (suc j) d q = rw (shifted_even, shifted_half) (ap suc (tz-up j d q))

tz_odd : (d q : ℕ) → count_trailing_zeros (suc d) (q * 2 + 1) ≡ 0
unfolding count_trailing_zeros
tz_odd d q = let o : (q * 2 + 1) % 2 ≡ 1 = omega arith in rw o

tz-hit : (d q : ℕ) → count_trailing_zeros (up 8 d) (q * 256 + 128) / 8 ≡ 0
tz-hit d q =
    let e : q * 256 + 128 ≡ (q * 2 + 1) * 2 ^ 7 = omega arith in
    rw (e, tz-up 7 (suc d) (q * 2 + 1), tz_odd)

tz-miss : (d q : ℕ) → count_trailing_zeros (up 8 d) (q * 256 + 0) / 8 ≡ suc (count_trailing_zeros d q / 8)
tz-miss d q =
    let e : q * 256 + 0 ≡ q * 2 ^ 8 = omega arith in
    rw (e, tz-up 8 d q) (omega arith)

-- ---- the first byte below k

-- a byte of 128 and more has the high bit
high : (s : ℕ) → 128 ≤ s → s < 256 → bit_and s 128 ≡ 128
high s a b =
    let x = s - 128 in
    let e : s ≡ 1 * 128 + x = omega arith in
    let h : x < 128 = omega arith in
    ap (λ n. bit_and n 128) e ∙ and_block 7 1 1 x 0 h (lit< tt) ∙ rw and_zero_r

-- two of them have it in common
high-set : (s t : ℕ) → 128 ≤ s → s < 256 → 128 ≤ t → t < 256 → bit_and (bit_and s t) 128 ≡ 128
high-set s t a b c d =
    let x = s - 128 in
    let y = t - 128 in
    let es : s ≡ 1 * 128 + x = omega arith in
    let et : t ≡ 1 * 128 + y = omega arith in
    let hx : x < 128 = omega arith in
    let hy : y < 128 = omega arith in
    let both : bit_and s t ≡ 1 * 128 + bit_and x y = ap₂ bit_and es et ∙ and_block 7 1 1 x y hx hy in
    high (bit_and s t) (omega (arith, both)) (lt_of_le_of_lt (and_le_l s t) b)

-- a byte of k and more leaves none when k is taken off
high-clear : (s r k : ℕ) → s + k ≡ r → r < 256 → bit_and (bit_and s (255 - r)) 128 ≡ 0
high-clear s r k e h = elim (dec_lt s 128) [
  | yes l ↦ small _ (lt_of_le_of_lt (and_le_l s (255 - r)) l)
  | no l ↦ small _ (lt_of_le_of_lt (and_le_r s (255 - r)) (omega arith))
]

split : (n w Y s r : ℕ) → w < cap n → s < 256 → r < 256
    → bit_and (bit_and (Y * 256 + s) (cap n * 256 - 1 - (w * 256 + r))) (hi n * 256 + 128) ≡ bit_and (bit_and Y (cap n - 1 - w)) (hi n) * 256 + bit_and (bit_and s (255 - r)) 128
split n w Y s r hw hs hr =
    let e : cap n * 256 - 1 - (w * 256 + r) ≡ (cap n - 1 - w) * 256 + (255 - r) = omega arith in
    let i : 255 - r < 256 = omega arith in
    let j : bit_and s (255 - r) < 256 = lt_of_le_of_lt (and_le_l s (255 - r)) hs in
    rw (e, and_block 8 Y (cap n - 1 - w) s (255 - r) hs i, and_block 8 (bit_and Y (cap n - 1 - w)) (hi n) (bit_and s (255 - r)) 128 j (lit< tt))

-- y is x less o, up to one wrap at m
abbrev Less : ℕ → ℕ → ℕ → ℕ → Type 0
Less m o x y = (y + o ≡ x) ⊎ (y + o ≡ x + m)

abbrev Place : ℕ → ℕ → List ℕ → ℕ → Type 0
Place k n xs y = count_trailing_zeros (bits n) (bit_and (bit_and y (cap n - 1 - word_of xs)) (hi n)) / 8 ≡ first_below k xs

module _ (k n w Y s r : ℕ) (few : k ≤ 128) (hs : s < 256) (hr : r < 256) (l : Less (cap n * 256) (each k n * 256 + k) (w * 256 + r) (Y * 256 + s)) where
  below-low : r < k → s + k ≡ r + 256
  below-low h = ⊎_elim (λ e. omega arith) (λ e. omega arith) l

  other-low : k ≤ r → s + k ≡ r
  other-low h = ⊎_elim (λ e. omega arith) (λ e. omega arith) l

  other-high : k ≤ r → Less (cap n) (each k n) w Y
  other-high h = let q = other-low h in ⊎_elim (λ e. inl (omega arith)) (λ e. inr (omega arith)) l

step : (k r : ℕ) (xs : List ℕ) (Y s : ℕ) → k ≤ 128 → s < 256 → r < 256 → Bytes xs → (Less (cap (length xs)) (each k (length xs)) (word_of xs) Y → Place k (length xs) xs Y)
    → Less (cap (length xs) * 256) (each k (length xs) * 256 + k) (word_of xs * 256 + r) (Y * 256 + s) → Place k (suc (length xs)) (r ∷ xs) (Y * 256 + s)
unfolding word_of first_below
step k r xs Y s few hs hr hb ih l =
    let n = length xs in
    let w = word_of xs in
    elim (dec_lt r k) [
      | yes h ↦
          let f : s + k ≡ r + 256 = below-low k n w Y s r few hs hr l h in
          let v : bit_and (bit_and s (255 - r)) 128 ≡ 128 = high-set s (255 - r) (omega arith) hs (omega arith) (omega arith) in
          rw (split n w Y s r (word_lt xs hb) hs hr, v, lt-ltb r k h) (tz-hit _ _)
      | no h ↦
          let g : k ≤ r = omega arith in
          let v = high-clear s r k (other-low k n w Y s r few hs hr l g) hr in
          rw (split n w Y s r (word_lt xs hb) hs hr, v, le-ltb r k g)
          (tz-miss _ _ ∙ ap suc (ih (other-high k n w Y s r few hs hr l g)))
    ]

place : (k : ℕ) (xs : List ℕ) (y : ℕ) → k ≤ 128 → Bytes xs → Less (cap (length xs)) (each k (length xs)) (word_of xs) y → Place k (length xs) xs y
unfolding count_trailing_zeros first_below word_of
place k [] y few hb l = refl
place k (r ∷ xs) y few hb l =
    rw (← div-add-mod' y 256)
    (step k r xs (y / 256) (y % 256) few (omega arith) hb.0 hb.1 (place k xs (y / 256) few hb.1) (rw (div-add-mod' y 256) l))

wrapped : (o x y : ℕ) → o < 2 ^ 64 → x < 2 ^ 64 → y < 2 ^ 64 → (y + o) % 2 ^ 64 ≡ x → Less (2 ^ 64) o x y
wrapped o x y ho hx hy e = elim (dec_lt (y + o) (2 ^ 64)) [ yes h ↦ inl (omega arith) | no h ↦ inr (omega arith) ]

-- a word of eight bytes w, and y that is less by a one in each byte, where the bytes have been put together with b by exclusive or
pub hits-place : (xs : List ℕ) (w b y : ℕ) → length xs ≡ 8 → Bytes xs → word_of xs ≡ w → b < 256 → y < 2 ^ 64
    → (y + 72340172838076673) % 2 ^ 64 ≡ bit_xor w (b * 72340172838076673)
    → count_trailing_zeros 64 (bit_and (bit_and y (18446744073709551615 - bit_xor w (b * 72340172838076673))) 9259542123273814144) / 8 ≡ first_in b xs
hits-place xs w b y eight hx hw hb hy e =
    let hz = xor_bytes b xs hb hx in
    let len = xor-eight xs w b eight hx hw hb in
    let x-is = xor_is xs w b eight hx hw hb in
    let lt : word_of (xor_all b xs) < 2 ^ 64 = rw len at (word_lt (xor_all b xs) hz) in
    let l : Less (2 ^ 64) 72340172838076673 (word_of (xor_all b xs)) y = wrapped _ _ y (lit< tt) lt hy (e ∙ x-is) in
    let p : Less (cap (length (xor_all b xs))) (each 1 (length (xor_all b xs))) (word_of (xor_all b xs)) y = rw len l in
    let q : Place 1 8 (xor_all b xs) y = rw len at (place 1 (xor_all b xs) y (omega arith) hz p) in
    rw x-is (q ∙ xor_first b xs)

-- ---- the first byte that is none of the 128 from k on

abbrev Outside : ℕ → ℕ → List ℕ → ℕ → Type 0
Outside k n xs y = count_trailing_zeros (bits n) (bit_and y (hi n)) / 8 ≡ first_outside k xs

outside-step : (k r : ℕ) (xs : List ℕ) (Y s : ℕ) → k ≤ 128 → s < 256 → r < 256 → (Less (cap (length xs)) (each k (length xs)) (word_of xs) Y → Outside k (length xs) xs Y)
    → Less (cap (length xs) * 256) (each k (length xs) * 256 + k) (word_of xs * 256 + r) (Y * 256 + s) → Outside k (suc (length xs)) (r ∷ xs) (Y * 256 + s)
unfolding word_of first_outside
outside-step k r xs Y s few hs hr ih l =
    let n = length xs in
    let w = word_of xs in
    let apart = and_block 8 Y (hi n) s 128 hs (lit< tt) in
    elim (dec_lt r k) [
      | yes h ↦
          let f : s + k ≡ r + 256 = below-low k n w Y s r few hs hr l h in
          rw (apart, high s (omega arith) hs, lt-ltb r k h) (tz-hit _ _)
      | no h ↦
          let g : k ≤ r = omega arith in
          let f : s + k ≡ r = other-low k n w Y s r few hs hr l g in
          elim (dec_lt r (k + 128)) [
            | yes i ↦
                rw (apart, small s (omega arith), le-ltb r k g, lt-leb (k + 128) r i)
                (tz-miss _ _ ∙ ap suc (ih (other-high k n w Y s r few hs hr l g)))
            | no i ↦ rw (apart, high s (omega arith) hs, le-ltb r k g, le-leb (k + 128) r (omega arith)) (tz-hit _ _)
          ]
    ]

outside : (k : ℕ) (xs : List ℕ) (y : ℕ) → k ≤ 128 → Bytes xs → Less (cap (length xs)) (each k (length xs)) (word_of xs) y → Outside k (length xs) xs y
unfolding count_trailing_zeros first_outside word_of
outside k [] y few hb l = refl
outside k (r ∷ xs) y few hb l =
    rw (← div-add-mod' y 256)
    (outside-step k r xs (y / 256) (y % 256) few (omega arith) hb.0 (outside k xs (y / 256) few hb.1) (rw (div-add-mod' y 256) l))

-- a word of eight bytes w, and y that is less by 16 in each byte
pub plain-place : (xs : List ℕ) (w y : ℕ) → length xs ≡ 8 → Bytes xs → word_of xs ≡ w → y < 2 ^ 64
    → (y + 1157442765409226768) % 2 ^ 64 ≡ w
    → count_trailing_zeros 64 (bit_and y 9259542123273814144) / 8 ≡ first_outside 16 xs
plain-place xs w y eight hx hw hy e =
    let lt : word_of xs < 2 ^ 64 = rw eight at (word_lt xs hx) in
    let l : Less (2 ^ 64) 1157442765409226768 (word_of xs) y = wrapped _ _ y (lit< tt) lt hy (e ∙ sym hw) in
    let p : Less (cap (length xs)) (each 16 (length xs)) (word_of xs) y = rw eight l in
    rw eight at (outside 16 xs y (omega arith) hx p)
