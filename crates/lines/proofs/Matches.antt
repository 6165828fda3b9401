-- Why the bits of `byte_match_mask` are as many as the bytes that equal the one looked for: by induction over the word's bytes.
use Rattle.std.proofs.Common.{◌≡◌, ℕ, zero, suc, ◌+◌, ◌-◌, ◌*◌, ◌<◌, ◌≤◌, eqb, List, [], ◌∷◌, length, refl, ap, ◌∙◌, arith, lit<, ne_eqb}
use lib.Bits.{bit_and, bit_or, bit_xor, and_block, or_block, and_le_l, and_le_r, and_mask, or_lt, or_add_and}
use lib.Count.{ones, ones_cat}
use Rattle.definitions.specs.Lists.{number_of_bool}
use Rattle.lines.specs.Search.{count_of}
use Rattle.lines.proofs.Search.{count-cons}
use Rattle.lines.specs.Words.{word_of, Bytes}
use Rattle.lines.proofs.Bytes.{cap, low, hi, small, xor_all, xor_bytes, xor_count, xor_is, xor-eight}

or-le-l : (a b : ℕ) → a ≤ bit_or a b
or-le-l a b = omega (arith, or_add_and a b, and_le_r a b)

or-le-r : (a b : ℕ) → b ≤ bit_or a b
or-le-r a b = omega (arith, or_add_and a b, and_le_l a b)

-- ---- one byte: its high bit is filled but where it is 0

fill : ℕ → ℕ
fill r = bit_or (bit_or (bit_and r 127 + 127) r) 127

sum_lt : (r : ℕ) → bit_and r 127 + 127 < 256
sum_lt r = omega (arith, and_le_r r 127)

fill-lt : (r : ℕ) → r < 256 → fill r < 256
unfolding fill
fill-lt r h = or_lt 8 _ 127 (or_lt 8 _ r (sum_lt r) h) (lit< tt)

fill-high : (r : ℕ) → r < 256 → (r ≡ 0 → ⊥) → 128 ≤ fill r
unfolding fill
fill-high r h z =
    omega (
      arith,
      and_mask r 7,
      or-le-l (bit_and r 127 + 127) r,
      or-le-r (bit_and r 127 + 127) r,
      or-le-l (bit_or (bit_and r 127 + 127) r) 127,
    )

one_byte : (r : ℕ) → r < 256 → ones (bit_and (255 - fill r) 128) ≡ number_of_bool (eqb r 0)
unfolding fill ones
one_byte zero h = refl
one_byte (suc r) h =
    let z : suc r ≡ 0 → ⊥ = omega arith in
    rw (ne_eqb (suc r) 0 z) (ap ones (small (255 - fill (suc r)) (omega (arith, fill-high (suc r) h z))))

-- ---- a word of n bytes

filled : ℕ → ℕ → ℕ
filled n w = bit_or (bit_or (bit_and w (low n) + low n) w) (low n)

filled-step : (n w r : ℕ) → r < 256 → filled (suc n) (w * 256 + r) ≡ filled n w * 256 + fill r
unfolding filled fill
filled-step n w r h =
    let e : bit_and w (low n) * 256 + bit_and r 127 + (low n * 256 + 127) ≡ (bit_and w (low n) + low n) * 256 + (bit_and r 127 + 127) = omega arith in
    let f : bit_or (bit_and r 127 + 127) r < 256 = or_lt 8 _ r (sum_lt r) h in
    rw (and_block 8 w (low n) r 127 h (lit< tt), e, or_block 8 (bit_and w (low n) + low n) w (bit_and r 127 + 127) r (sum_lt r) h, or_block 8 (bit_or (bit_and w (low n) + low n) w) (low n) (bit_or (bit_and r 127 + 127) r) 127 f (lit< tt))

filled-lt : (xs : List ℕ) → Bytes xs → filled (length xs) (word_of xs) < cap (length xs)
unfolding word_of filled
filled-lt [] h = lit< tt
filled-lt (r ∷ xs) h =
    let ih = filled-lt xs h.1 in
    rw (filled-step (length xs) (word_of xs) r h.0) (omega (arith, fill-lt r h.0))

zeros : (xs : List ℕ) → Bytes xs → ones (bit_and (cap (length xs) - 1 - filled (length xs) (word_of xs)) (hi (length xs))) ≡ count_of 0 xs
unfolding word_of count_of ones filled
zeros [] h = refl
zeros (r ∷ xs) h =
    let n = length xs in
    let F = filled n (word_of xs) in
    let f = fill-lt r h.0 in
    let g = filled-lt xs h.1 in
    let e : cap n * 256 - 1 - (F * 256 + fill r) ≡ (cap n - 1 - F) * 256 + (255 - fill r) = omega arith in
    let s : 255 - fill r < 256 = omega arith in
    let t : bit_and (255 - fill r) 128 < 256 = omega (arith, and_le_r (255 - fill r) 128) in
    rw (filled-step n (word_of xs) r h.0, e, and_block 8 (cap n - 1 - F) (hi n) (255 - fill r) 128 s (lit< tt), ones_cat 8 (bit_and (cap n - 1 - F) (hi n)) (bit_and (255 - fill r) 128) t, one_byte r h.0, zeros xs h.1) (omega (arith, count-cons 0 r xs))

-- a word of eight bytes w, where the bytes have been put together with b by exclusive or
pub matches : (xs : List ℕ) (w b x : ℕ) → length xs ≡ 8 → Bytes xs → word_of xs ≡ w → b < 256 → x ≡ bit_xor w (b * 72340172838076673)
    → ones (bit_and (18446744073709551615 - bit_or (bit_or (bit_and x 9187201950435737471 + 9187201950435737471) x) 9187201950435737471) 9259542123273814144) ≡ count_of b xs
unfolding filled
matches xs w b x eight hx hw hb e =
    let len = xor-eight xs w b eight hx hw hb in
    let q = rw len at (zeros (xor_all b xs) (xor_bytes b xs hb hx)) in
    rw (e, xor_is xs w b eight hx hw hb) (q ∙ xor_count b xs)
