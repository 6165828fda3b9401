-- Up to eight cells at once, by their word: a byte but for its lowest bit is 48 where it is a `0` or a `1`.
use mathlib.Core.Path.{◌≡◌, refl, ap, ap₂, sym, subst, ◌∙◌}
use mathlib.Core.Bool.{Bool, true, false, ◌||◌}
use mathlib.Core.List.{[], ◌∷◌, ◌++◌}
use Prim.Native.Nat.{ℕ, zero, suc, ◌+◌, ◌*◌, ◌-◌, ◌/◌, ◌%◌, ◌^◌, ◌<◌, ◌≤◌}
use native.Mathlib.Omega.{arith}
use borrow.Author.Tests.{eqb-true, eq-eqb}
use lib.Bits.{bit_and, and_block, and_le_r}
use lib.Dec.{eqb, lit<}
use lib.ListN.{length, get_or, take, drop, length-drop, take-append-drop, replicate}
use lib.Seq.{get_or-drop, length-take-le}
use Rattle.definitions.specs.Lines.{Row}
use Rattle.lines.specs.Words.{half_word_at, word_of, Bytes}
use Rattle.taps.specs.Taps.{with_bit, tap_mask, mask_counts}
use Rattle.taps.specs.declared.Taps.{Taps}
use Rattle.taps.specs.declared.Taps.TheVariants.{Mask, Other}
use Rattle.taps.proofs.Tables.{same_at}
use Rattle.taps.proofs.Masks.{parts, mask_lt, mask-few, beside, mask_append}

-- n cells `0`
abbrev zero_cells : ℕ → Row
zero_cells n = replicate n 48

-- the lowest k bits of a mask, each in a byte of its own
abbrev spread_bits : ℕ → ℕ → ℕ
spread_bits zero m = 0
spread_bits (suc k) m = m % 2 + 256 * spread_bits k (m / 2)

-- ---- a byte

tested-byte : (b : ℕ) → b < 256 → eqb (bit_and b 254) 48 ≡ (eqb b 48 || eqb b 49)
tested-byte b h = same_at (λ k. eqb (bit_and k 254) 48) (λ k. eqb k 48 || eqb k 49) 256 refl b h

-- a byte that passes is 48 and a bit
passed : (b : ℕ) → b < 256 → bit_and b 254 ≡ 48 → (48 ≤ b) × (b ≤ 49)
passed b h e = go (eqb b 48) (eqb b 49) (λ q. eqb-true b 48 q) (λ q. eqb-true b 49 q) (sym (tested-byte b h) ∙ eq-eqb (bit_and b 254) 48 e)
  where
    go : (p q : Bool) → (p ≡ true → b ≡ 48) → (q ≡ true → b ≡ 49) → (p || q) ≡ true → (48 ≤ b) × (b ≤ 49)
    go true q x y t = (omega (arith, x refl), omega (arith, x refl))
    go false true x y t = (omega (arith, y refl), omega (arith, y refl))
    go false false x y t = let z : ◌≡◌ {A = ℕ} 0 1 = cc in absurd (omega arith)

passes : (f : ℕ) → f ≤ 1 → bit_and (48 + f) 254 ≡ 48
passes zero h = refl
passes (suc zero) h = refl
passes (suc (suc f)) h = absurd (omega arith)

with-bit : (f m : ℕ) → f ≤ 1 → with_bit (48 + f) (Mask m) ≡ Mask (f + 2 * m)
with-bit zero m h = ap Mask (omega arith)
with-bit (suc zero) m h = refl
with-bit (suc (suc f)) m h = absurd (omega arith)

told-byte : (b m : ℕ) → 48 ≤ b → b ≤ 49 → with_bit b (Mask m) ≡ Mask ((b - 48) + 2 * m)
told-byte b m low high =
    let byte : b ≡ 48 + (b - 48) = omega arith in
    ap (λ x. with_bit x (Mask m)) byte ∙ with-bit (b - 48) m (omega arith)

-- ---- a word

-- k bytes without their lowest bits
abbrev evens : ℕ → ℕ
evens zero = 0
evens (suc k) = evens k * 256 + 254

and-next : (k w b : ℕ) → b < 256 → bit_and (w * 256 + b) (evens (suc k)) ≡ bit_and w (evens k) * 256 + bit_and b 254
and-next k w b h = and_block 8 w (evens k) b 254 h (lit< tt)

-- some mask
record Masked (l : Row) : Type 0 where
  mask : ℕ
  told : tap_mask l ≡ Mask mask

-- a word that passes is that of cells with a mask
word-passed : (k : ℕ) (l : Row) → Bytes l → length l ≤ k → bit_and (word_of l) (evens k) ≡ word_of (zero_cells (length l)) → Masked l
unfolding tap_mask word_of
word-passed k [] h n e = record { mask = 0; told = refl }
word-passed zero (b ∷ l) h n e = absurd (omega arith)
word-passed (suc k) (b ∷ l) h n e =
    let next : bit_and (word_of l) (evens k) * 256 + bit_and b 254 ≡ word_of (zero_cells (length l)) * 256 + 48 = sym (and-next k (word_of l) b h.0) ∙ e in
    let low = and_le_r b 254 in
    let here : bit_and b 254 ≡ 48 = omega arith in
    let p = passed b h.0 here in
    let rest = word-passed k l h.1 (omega arith) (omega arith) in
    record {
      mask = (b - 48) + 2 * rest.mask;
      told = ap (with_bit b) rest.told ∙ told-byte b rest.mask p.0 p.1;
    }

-- and cells with a mask have a word that passes
word-passes : (k : ℕ) (l : Row) (m : ℕ) → length l ≤ k → tap_mask l ≡ Mask m → bit_and (word_of l) (evens k) ≡ word_of (zero_cells (length l))
unfolding tap_mask word_of
word-passes zero [] m n e = refl
word-passes (suc k) [] m n e = none k
  where
    none : (k : ℕ) → bit_and 0 (evens (suc k)) ≡ 0
    none zero = refl
    none (suc k) = and-next (suc k) 0 0 (lit< tt) ∙ rw (none k)
word-passes zero (b ∷ l) m n e = absurd (omega arith)
word-passes (suc k) (b ∷ l) m n e =
    let s = parts b (tap_mask l) m e in
    let here : bit_and b 254 ≡ 48 = ap (λ x. bit_and x 254) s.byte ∙ passes s.first s.small in
    and-next k (word_of l) b (omega (arith, s.byte, s.small)) ∙ rw (word-passes k l s.rest (omega arith) s.after, here)

-- its bytes are 48 and the bits of the mask
spread_none : (k : ℕ) → spread_bits k 0 ≡ 0
spread_none zero = refl
spread_none (suc k) = rw (spread_none k)

word-bits : (k : ℕ) (l : Row) (m : ℕ) → length l ≤ k → tap_mask l ≡ Mask m → word_of l ≡ word_of (zero_cells (length l)) + spread_bits k m
unfolding tap_mask word_of
word-bits k [] m n e = let w : 0 ≡ m = cc in omega (arith, ap (spread_bits k) (sym w) ∙ spread_none k)
word-bits zero (b ∷ l) m n e = absurd (omega arith)
word-bits (suc k) (b ∷ l) m n e =
    let s = parts b (tap_mask l) m e in
    let low : m % 2 ≡ s.first = omega (arith, s.whole, s.small) in
    let high : m / 2 ≡ s.rest = omega (arith, s.whole, s.small) in
    let rest = word-bits k l s.rest (omega arith) s.after in
    omega (arith, s.byte, low, rest, ap (spread_bits k) high)

-- ---- four cells and eight

zeros-four : word_of (zero_cells 4) ≡ 808464432
unfolding word_of
zeros-four = refl

zeros-eight : word_of (zero_cells 8) ≡ 3472328296227680304
unfolding word_of
zeros-eight = refl

-- the bits of a mask of four, or of two masks of four, beside each other: tested for all
gathered-four : (m : ℕ) → m < 16 → spread_bits 4 m * 16909320 / 16777216 % 256 ≡ m
gathered-four m h = same_at (λ n. spread_bits 4 n * 16909320 / 16777216 % 256) (λ n. n) 16 refl m h

gathered-eight : (m : ℕ) → m < 256 → (spread_bits 4 m + 16 * spread_bits 4 (m / 2 / 2 / 2 / 2)) * 16909320 / 16777216 % 256 ≡ m
gathered-eight m h = same_at (λ n. (spread_bits 4 n + 16 * spread_bits 4 (n / 2 / 2 / 2 / 2)) * 16909320 / 16777216 % 256) (λ n. n) 256 refl m h

-- k cells by their word: where it passes, its bits are a mask
record Bits (k w : ℕ) (l : Row) : Type 0 where
  mask : ℕ
  told : tap_mask l ≡ Mask mask
  few : mask < 2 ^ k
  bits : w ≡ word_of (zero_cells k) + spread_bits k mask

module _ (k : ℕ) (l : Row) (long : length l ≡ k) (w : ℕ) (word : word_of l ≡ w) where
  zeros : word_of (zero_cells (length l)) ≡ word_of (zero_cells k)
  zeros = ap (λ n. word_of (zero_cells n)) long

  cells-bits : Bytes l → bit_and w (evens k) ≡ word_of (zero_cells k) → Bits k w l
  cells-bits small e =
      let p = word-passed k l small (omega (arith, long)) (ap (λ v. bit_and v (evens k)) word ∙ e ∙ sym zeros) in
      record {
        mask = p.mask;
        told = p.told;
        few = mask-few k l p.mask (omega (arith, long)) p.told;
        bits = sym word ∙ word-bits k l p.mask (omega (arith, long)) p.told ∙ ap (λ z. z + spread_bits k p.mask) zeros;
      }

  -- where it does not, there is none
  cells-other : (bit_and w (evens k) ≡ word_of (zero_cells k) → ⊥) → Other ≡ tap_mask l
  cells-other fails = go (tap_mask l) refl
    where
      go : (t : Taps) → tap_mask l ≡ t → Other ≡ tap_mask l
      go Other e = sym e
      go (Mask m) e = absurd (fails (ap (λ v. bit_and v (evens k)) (sym word) ∙ word-passes k l m (omega (arith, long)) e ∙ zeros))

-- ---- one or two cells after others

-- A product by `factor` sets the bits of k cells, of which `zeros` is the word where all are `0`, from place n on: `places` has these bits.
abbrev pub BitsPlaced : ℕ → ℕ → ℕ → ℕ → ℕ → Type 0
BitsPlaced zeros factor places n k = (m : ℕ) → m < 2 ^ k → bit_and ((zeros + spread_bits 2 m) * factor) places ≡ 2 ^ n * m

module _ (a b : Row) (few : length b ≤ 2) (zeros : ℕ) (z : zeros ≡ word_of (zero_cells (length b))) where
  -- where their word passes, their bits stand after those of the others
  pub rest-mask : (lo factor places : ℕ) → Mask lo ≡ tap_mask a → Bytes b → bit_and (word_of b) 65278 ≡ zeros → BitsPlaced zeros factor places (length a) (length b)
      → Mask (lo + bit_and (word_of b * factor) places) ≡ tap_mask (a ++ b)
  rest-mask lo factor places told x e placed =
      let k = word-passed 2 b x few (e ∙ z) in
      let w : word_of b ≡ zeros + spread_bits 2 k.mask = word-bits 2 b k.mask few k.told ∙ ap (λ v. v + spread_bits 2 k.mask) (sym z) in
      let bits : bit_and (word_of b * factor) places ≡ 2 ^ length a * k.mask = ap (λ v. bit_and (v * factor) places) w ∙ placed k.mask (mask_lt b k.mask k.told) in
      ap (λ v. Mask (lo + v)) bits ∙ ap₂ (beside (length a)) told (sym k.told) ∙ sym (mask_append a b)

  -- where it does not, there is no mask
  pub rest-other : (bit_and (word_of b) 65278 ≡ zeros → ⊥) → Other ≡ tap_mask (a ++ b)
  rest-other fails = go (tap_mask a) (tap_mask b) refl ∙ sym (mask_append a b)
    where
      go : (t u : Taps) → tap_mask b ≡ u → Other ≡ beside (length a) t u
      go t (Mask m) e = absurd (fails (word-passes 2 b m few e ∙ sym z))
      go (Mask lo) Other e = refl
      go Other Other e = refl

-- ---- words of a row

pub bytes_take : (n : ℕ) (l : Row) → Bytes l → Bytes (take n l)
bytes_take zero l h = tt
bytes_take (suc n) [] h = tt
bytes_take (suc n) (x ∷ l) h = (h.0, bytes_take n l h.1)

pub bytes_drop : (n : ℕ) (l : Row) → Bytes l → Bytes (drop n l)
bytes_drop zero l h = h
bytes_drop (suc n) [] h = tt
bytes_drop (suc n) (x ∷ l) h = bytes_drop n l h.1

first-four : (l : Row) → 4 ≤ length l → word_of (take 4 l) ≡ half_word_at l 0
unfolding word_of
first-four [] h = absurd (omega arith)
first-four (a ∷ []) h = absurd (omega arith)
first-four (a ∷ b ∷ []) h = absurd (omega arith)
first-four (a ∷ b ∷ c ∷ []) h = absurd (omega arith)
first-four (a ∷ b ∷ c ∷ d ∷ l) h = omega arith

eight-word : (l : Row) → 8 ≤ length l → word_of (take 8 l) ≡ half_word_at l 0 + half_word_at l 4 * 4294967296
unfolding word_of
eight-word [] h = absurd (omega arith)
eight-word (a ∷ []) h = absurd (omega arith)
eight-word (a ∷ b ∷ []) h = absurd (omega arith)
eight-word (a ∷ b ∷ c ∷ []) h = absurd (omega arith)
eight-word (a ∷ b ∷ c ∷ d ∷ []) h = absurd (omega arith)
eight-word (a ∷ b ∷ c ∷ d ∷ p ∷ []) h = absurd (omega arith)
eight-word (a ∷ b ∷ c ∷ d ∷ p ∷ q ∷ []) h = absurd (omega arith)
eight-word (a ∷ b ∷ c ∷ d ∷ p ∷ q ∷ r ∷ []) h = absurd (omega arith)
eight-word (a ∷ b ∷ c ∷ d ∷ p ∷ q ∷ r ∷ s ∷ l) h = omega arith

-- a row's first four cells by their word
module _ (r : Row) (h : 4 ≤ length r) (w : ℕ) (e : w ≡ half_word_at r 0) where
  pub four-mask : Bytes r → bit_and w 4278124286 ≡ 808464432 → Mask ((w - 808464432) * 16909320 / 16777216 % 256) ≡ tap_mask (take 4 r)
  four-mask small p =
      let B = cells-bits 4 (take 4 r) (length-take-le 4 r h) w (first-four r h ∙ sym e) (bytes_take 4 r small) (p ∙ sym zeros-four) in
      let bits : w - 808464432 ≡ spread_bits 4 B.mask = omega (arith, B.bits, zeros-four) in
      ap Mask (ap (λ v. v * 16909320 / 16777216 % 256) bits ∙ gathered-four B.mask B.few) ∙ sym B.told

  pub four-other : (bit_and w 4278124286 ≡ 808464432 → ⊥) → Other ≡ tap_mask (take 4 r)
  four-other fails = cells-other 4 (take 4 r) (length-take-le 4 r h) w (first-four r h ∙ sym e) (λ p. fails (p ∙ zeros-four))

-- and its first eight, by two words of four
module _ (r : Row) (h : 8 ≤ length r) (small : Bytes r) (a b : ℕ) (ea : a ≡ half_word_at r 0) (eb : b ≡ half_word_at r 4) (low-a : a < 4294967296) (low-b : b < 4294967296) where
  all-eight : length (take 8 r) ≡ 8
  all-eight = length-take-le 8 r h

  two-halves : word_of (take 8 r) ≡ a + b * 4294967296
  two-halves = eight-word r h ∙ rw (ea, eb) refl

  pub least-eight : bit_and (a + b * 4294967296) 18374403900871474942 ≡ 3472328296227680304 → (808464432 ≤ a) × (808464432 ≤ b)
  least-eight p =
      let B = cells-bits 8 (take 8 r) all-eight (a + b * 4294967296) two-halves (bytes_take 8 r small) (p ∙ sym zeros-eight) in
      (omega (arith, B.bits, zeros-eight), omega (arith, B.bits, zeros-eight))

  pub eight-mask : bit_and (a + b * 4294967296) 18374403900871474942 ≡ 3472328296227680304
      → Mask ((a - 808464432 + 16 * (b - 808464432)) * 16909320 / 16777216 % 256) ≡ tap_mask (take 8 r)
  eight-mask p =
      let B = cells-bits 8 (take 8 r) all-eight (a + b * 4294967296) two-halves (bytes_take 8 r small) (p ∙ sym zeros-eight) in
      let bits : a - 808464432 + 16 * (b - 808464432) ≡ spread_bits 4 B.mask + 16 * spread_bits 4 (B.mask / 2 / 2 / 2 / 2) = omega (arith, B.bits, zeros-eight) in
      ap Mask (ap (λ v. v * 16909320 / 16777216 % 256) bits ∙ gathered-eight B.mask B.few) ∙ sym B.told

  pub eight-other : (bit_and (a + b * 4294967296) 18374403900871474942 ≡ 3472328296227680304 → ⊥) → Other ≡ tap_mask (take 8 r)
  eight-other fails = cells-other 8 (take 8 r) all-eight (a + b * 4294967296) two-halves (λ p. fails (p ∙ zeros-eight))

-- a row's last byte, and its last two, from i on
pub one_word : (r : Row) (i : ℕ) → length r ≡ i + 1 → get_or r i 0 ≡ word_of (drop i r)
unfolding word_of
one_word r i h =
    let here : i + 0 ≡ i = omega arith in
    sym (go (drop i r) (omega (arith, length-drop i r)) ∙ get_or-drop i r 0 0 ∙ ap (λ k. get_or r k 0) here)
  where
    go : (l : Row) → length l ≡ 1 → word_of l ≡ get_or l 0 0
    go [] e = absurd (omega arith)
    go (x ∷ []) e = omega arith
    go (x ∷ y ∷ l) e = absurd (omega arith)

pub two-word : (r : Row) (i : ℕ) → length r ≡ i + 2 → get_or r i 0 + get_or r (i + 1) 0 * 256 ≡ word_of (drop i r)
unfolding word_of
two-word r i h =
    let here : i + 0 ≡ i = omega arith in
    let p : get_or (drop i r) 0 0 ≡ get_or r i 0 = get_or-drop i r 0 0 ∙ ap (λ k. get_or r k 0) here in
    omega (arith, go (drop i r) (omega (arith, length-drop i r)), p, get_or-drop i r 1 0)
  where
    go : (l : Row) → length l ≡ 2 → word_of l ≡ get_or l 0 0 + get_or l 1 0 * 256
    go [] e = absurd (omega arith)
    go (x ∷ []) e = absurd (omega arith)
    go (x ∷ y ∷ []) e = omega arith
    go (x ∷ y ∷ z ∷ l) e = absurd (omega arith)

-- a row as its first n cells and the k after them, whose word is w
module _ (r : Row) (n k : ℕ) (h : length r ≡ n + k) (few : k ≤ 2) where
  long : length (take n r) ≡ n
  long = length-take-le n r (omega arith)

  short : length (drop n r) ≡ k
  short = omega (arith, length-drop n r)

  all : tap_mask (take n r ++ drop n r) ≡ tap_mask r
  all = ap tap_mask (take-append-drop n r)

  -- the first have no mask
  pub first-none : Other ≡ tap_mask (take n r) → Other ≡ tap_mask r
  first-none e = ap (λ t. beside (length (take n r)) t (tap_mask (drop n r))) e ∙ sym (mask_append (take n r) (drop n r)) ∙ all

  module _ (w zeros : ℕ) (word : w ≡ word_of (drop n r)) (z : zeros ≡ word_of (zero_cells k)) where
    zeros-there : zeros ≡ word_of (zero_cells (length (drop n r)))
    zeros-there = z ∙ ap (λ l. word_of (zero_cells l)) (sym short)

    pub rest-told : (lo factor places : ℕ) → Mask lo ≡ tap_mask (take n r) → Bytes r → BitsPlaced zeros factor places n k → bit_and w 65278 ≡ zeros
        → Mask (lo + bit_and (w * factor) places) ≡ tap_mask r
    rest-told lo factor places told small placed e =
        let after : BitsPlaced zeros factor places n (length (drop n r)) = subst (BitsPlaced zeros factor places n) (sym short) placed in
        let there : BitsPlaced zeros factor places (length (take n r)) (length (drop n r)) = subst (λ i. BitsPlaced zeros factor places i (length (drop n r))) (sym long) after in
        ap (λ x. Mask (lo + bit_and (x * factor) places)) word
        ∙ rest-mask (take n r) (drop n r) (omega (arith, short)) zeros zeros-there lo factor places told (bytes_drop n r small) (ap (λ x. bit_and x 65278) (sym word) ∙ e) there
        ∙ all

    pub rest-none : (bit_and w 65278 ≡ zeros → ⊥) → Other ≡ tap_mask r
    rest-none fails = rest-other (take n r) (drop n r) (omega (arith, short)) zeros zeros-there (λ e. fails (ap (λ x. bit_and x 65278) word ∙ e)) ∙ all

-- where the bits of one cell after four, and of two after eight, are put
pub one-zero : 48 ≡ word_of (zero_cells 1)
unfolding word_of
one-zero = refl

pub two-zeros : 12336 ≡ word_of (zero_cells 2)
unfolding word_of
two-zeros = refl

pub fifth-placed : BitsPlaced 48 16 16 4 1
fifth-placed m h = same_at (λ n. bit_and ((48 + spread_bits 2 n) * 16) 16) (λ n. 16 * n) 2 refl m h

pub last-placed : BitsPlaced 12336 258 768 8 2
last-placed m h = same_at (λ n. bit_and ((12336 + spread_bits 2 n) * 258) 768) (λ n. 256 * n) 4 refl m h

-- ---- the counts of five columns and five

pub fives-counted : (m : ℕ) → m < 1024 → mask_counts (m % 32) + mask_counts (32 * (m / 32)) ≡ mask_counts m
unfolding mask_counts
fives-counted m h = same_at (λ n. mask_counts (n % 32) + mask_counts (32 * (n / 32))) mask_counts 1024 refl m h
