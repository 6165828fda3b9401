-- A word by its bytes, and by exclusive or with one byte in every place: the bytes that equal it become 0.
use Rattle.std.proofs.Common.{◌≡◌, ℕ, zero, suc, ◌+◌, ◌*◌, ◌<◌, Bool, true, false, eqb, List, [], ◌∷◌, length, refl, ap, ◌∙◌, mul_assoc, mul-zero, mul-one, mul-add, arith, lit<, eq-eqb, ne_eqb, eqb-true}
use lib.Bits.{bit_and, bit_xor, xor_block, and_comm, and_shifted, and_le_l, and_le_r, xor_self, xor_lt, xor_zero_l, xor_add_and}
use lib.Dec.{ltb}
use borrow.Author.Tests.{eqb-false, le-ltb}
use Rattle.lines.specs.Search.{count_of}
use Rattle.lines.proofs.Search.{count-cons}
use Rattle.lines.specs.Words.{word_of, Bytes, first_in, first_below}

-- at n bytes: the numbers below it, a one in each byte, the seven low bits of each byte, the high bit of each byte
abbrev pub cap : ℕ → ℕ
cap zero = 1
cap (suc n) = cap n * 256

abbrev pub lo : ℕ → ℕ
lo zero = 0
lo (suc n) = lo n * 256 + 1

-- k in each byte
abbrev pub each : ℕ → ℕ → ℕ
each k zero = 0
each k (suc n) = each k n * 256 + k

abbrev pub low : ℕ → ℕ
low zero = 0
low (suc n) = low n * 256 + 127

abbrev pub hi : ℕ → ℕ
hi zero = 0
hi (suc n) = hi n * 256 + 128

pub word_lt : (xs : List ℕ) → Bytes xs → word_of xs < cap (length xs)
unfolding word_of
word_lt [] h = lit< tt
word_lt (x ∷ xs) h = let ih = word_lt xs h.1 in omega arith

-- a byte below 128 has no high bit
pub small : (z : ℕ) → z < 128 → bit_and z 128 ≡ 0
small z h = and_comm z 128 ∙ and_shifted 1 7 z h

abbrev pub xor_all : ℕ → List ℕ → List ℕ
xor_all b [] = []
xor_all b (x ∷ xs) = bit_xor x b ∷ xor_all b xs

xor-length : (b : ℕ) (xs : List ℕ) → length (xor_all b xs) ≡ length xs
xor-length b [] = refl
xor-length b (x ∷ xs) = ap suc (xor-length b xs)

pub xor_bytes : (b : ℕ) (xs : List ℕ) → b < 256 → Bytes xs → Bytes (xor_all b xs)
xor_bytes b [] hb h = tt
xor_bytes b (x ∷ xs) hb h = (xor_lt 8 x b h.0 hb, xor_bytes b xs hb h.1)

xor-word : (b : ℕ) (xs : List ℕ) → b < 256 → Bytes xs → bit_xor (word_of xs) (b * lo (length xs)) ≡ word_of (xor_all b xs)
unfolding word_of
xor-word b [] hb h = xor_zero_l (b * 0) ∙ mul-zero b
xor-word b (x ∷ xs) hb h =
    let e : b * (lo (length xs) * 256 + 1) ≡ b * lo (length xs) * 256 + b = mul-add b _ 1 ∙ simp (mul-one, mul_assoc) in
    rw (e, xor_block 8 (word_of xs) (b * lo (length xs)) x b h.0 hb, xor-word b xs hb h.1)

xor_same : (x b : ℕ) → bit_xor x b ≡ 0 → x ≡ b
xor_same x b e = omega (arith, xor_add_and x b, and_le_l x b, and_le_r x b)

xor-eqb : (x b : ℕ) → eqb (bit_xor x b) 0 ≡ eqb x b
xor-eqb x b = go (eqb x b) refl
  where
    go : (t : Bool) → eqb x b ≡ t → eqb (bit_xor x b) 0 ≡ eqb x b
    go true e = rw (e, eqb-true x b e) (eq-eqb (bit_xor b b) 0 (xor_self b))
    go false e = rw e (ne_eqb (bit_xor x b) 0 (λ z. eqb-false x b e (xor_same x b z)))

-- only 0 is below 1
below-one : (z : ℕ) → ltb z 1 ≡ eqb z 0
below-one zero = refl
below-one (suc z) = rw (le-ltb (suc z) 1 (omega arith), ne_eqb (suc z) 0 (omega arith))

-- the first 0 is where b was first, and there are as many
pub xor_first : (b : ℕ) (xs : List ℕ) → first_below 1 (xor_all b xs) ≡ first_in b xs
unfolding first_in first_below
xor_first b [] = refl
xor_first b (x ∷ xs) = rw (below-one, xor-eqb, xor_first b xs)

pub xor_count : (b : ℕ) (xs : List ℕ) → count_of 0 (xor_all b xs) ≡ count_of b xs
unfolding count_of
xor_count b [] = refl
xor_count b (x ∷ xs) = rw (count-cons 0 (bit_xor x b) (xor_all b xs), count-cons b x xs, xor-eqb, xor_count b xs)

-- a word of eight
module _ (xs : List ℕ) (w b : ℕ) (eight : length xs ≡ 8) (hx : Bytes xs) (hw : word_of xs ≡ w) (hb : b < 256) where
  pub xor_is : bit_xor w (b * 72340172838076673) ≡ word_of (xor_all b xs)
  xor_is = rw (← hw) (rw eight at (xor-word b xs hb hx))

  pub xor-eight : length (xor_all b xs) ≡ 8
  xor-eight = xor-length b xs ∙ eight
