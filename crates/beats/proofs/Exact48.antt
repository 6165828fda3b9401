-- Where n divides 192, a row beat in the measures 0 to 1,023 times 48 is rounded to 192 × m + 192 × r / n. Assumes nothing.
-- The beat is within 1/4096 of its fraction and 48 times it within 48/4096 of that whole number; the product, which is below 2^18, is rounded by
-- 1/128 at most: together less than a half.
use Rattle.std.proofs.Common.{◌≡◌, ℕ, ◌+◌, ◌*◌, ◌/◌, ◌^◌, ◌<◌, ◌≤◌, false, sym, ap, ◌∙◌, subst, inl, inr, eq-zero-or-pos, lt_of_mul-lt-mul_right, le_of_mul-le-mul_right, mul-le-mul_left, mul-le-mul_right, mul-lt-mul_of_pos_right, mul-one, arith, lit<, lit≤}
use lib.Ieee.{Float, binary32, round, mul}
use lib.Ieee.Exact.{HasValue}
use lib.Ieee.Nearest.{closest_same}
use lib.Ieee.Scale.{grid}
use lib.Ieee.Positive.{num, den, den_pos, value→cross}
use Rattle.definitions.specs.Beats.{f32, beat_of_row, whole}
use Rattle.definitions.specs.BeatsNear.{Within, BeatWithin, beat48, BeatExact}
use Rattle.beats.proofs.Values.{mul_at, of-whole}
use Rattle.beats.proofs.Upto.{grid-value}
use Rattle.beats.proofs.Rounding.{ApartBy, closest-is, unit, round-half, unit-most}
use Rattle.beats.proofs.Near.{beat-near}

-- ---- on whole numbers: N / D is the beat, E / n its fraction, I the whole number, and g the product in units
abbrev one : ℕ
one = 2 ^ 149

times48 : (N D E n I : ℕ) → 0 < n → 48 * E ≡ I * n → Within 1 4096 N D E n → ApartBy 4096 (48 * N) (I * D) (48 * D)
times48 N D E n I P e h =
    let f : 48 * E * D ≡ I * n * D = ap (λ (z : ℕ). z * D) e in
    record { most = le_of_mul-le-mul_right {k = n} (grind (arith, h.most)) P; least = le_of_mul-le-mul_right {k = n} (grind (arith, h.least)) P }

beat-below : (N D E n : ℕ) → 0 < n → n ≤ 192 → E + 4 ≤ 4096 * n → Within 1 4096 N D E n → N ≤ 4096 * D
beat-below N D E n P S e h =
    let a = mul-le-mul_right D e in
    let b = mul-le-mul_right D S in
    le_of_mul-le-mul_right {k = n} (grind (arith, h.most)) P

product-near : (N D I g : ℕ) → 0 < D → ApartBy 4096 (48 * N) (I * D) (48 * D) → ApartBy 2 (g * D) (N * 48 * one) (D * 2 ^ 143)
    → (2 * g < 2 * (I * one) + one) × (2 * (I * one) < 2 * g + one)
product-near N D I g P h k = (
  lt_of_mul-lt-mul_right D (grind (arith, h.most, k.most)),
  lt_of_mul-lt-mul_right D (grind (arith, h.least, k.least)),
)

-- ---- the floats
module _ (m r n I : ℕ) (R : r < n) (S : n ≤ 192) (M : m ≤ 1023) (e : 48 * (4 * m * n + 4 * r) ≡ I * n) where
  P : 0 < n
  P = omega arith

  abbrev x : Float
  x = beat_of_row m r n

  abbrev N : ℕ
  N = num x

  abbrev D : ℕ
  D = den x

  abbrev g : ℕ
  g = grid binary32 (N * 48) D

  near : BeatWithin 1 4096 m r n
  near = beat-near m r n R (omega arith) M

  below : N * 48 ≤ 196608 * D
  below =
      let a : m * n ≤ 1023 * n = mul-le-mul_right n M in
      let b : 4 * m * n + 4 * r + 4 ≤ 4096 * n = grind arith in
      omega (arith, beat-below N D (4 * m * n + 4 * r) n P S b near.size)

  product-apart : ApartBy 2 (g * D) (N * 48 * one) (D * 2 ^ 143)
  product-apart =
      let h = round-half binary32 (N * 48) D (den_pos x) in
      let l : N * 48 < 2 ^ 18 * D = omega (arith, below, den_pos x) in
      let w : N * 48 * one < 2 ^ 18 * D * one = mul-lt-mul_of_pos_right l (lit< tt) in
      let u : D * unit binary32 (N * 48) D ≤ D * 2 ^ 143 = mul-le-mul_left D (unit-most binary32 (N * 48) D 167 (den_pos x) (omega (arith, w))) in
      record { most = omega (arith, h.most, u); least = omega (arith, h.least, u) }

  product-is : mul binary32 x (f32 48) ≡ round binary32 false (N * 48) D
  product-is =
      mul_at binary32 x (f32 48) N D 48 1 (den_pos x) (lit< tt) near.value (of-whole binary32 48 (lit≤ tt))
      ∙ ap (λ (z : ℕ). round binary32 false (N * 48) z) (mul-one D)

  product-at : HasValue (mul binary32 x (f32 48)) false g one
  product-at = subst (λ (z : Float). HasValue z false g one) (sym product-is) (grid-value binary32 (N * 48) D 196608 (den_pos x) below (lit< tt))

  exact : beat48 m r n ≡ I
  unfolding beat48 whole
  exact =
      let y = mul binary32 x (f32 48) in
      let h = product-near N D I g (den_pos x) (times48 N D (4 * m * n + 4 * r) n I P e near.size) product-apart in
      closest_same (num y) (den y) g one (den_pos y) (lit< tt) (value→cross y g one product-at) ∙ closest-is g one I (lit< tt) h.0 h.1

-- ---- n × d = 192
quotient : (m r n d : ℕ) → n * d ≡ 192 → 48 * (4 * m * n + 4 * r) ≡ (192 * m + d * r) * n
quotient m r n d e = let f : n * d * r ≡ 192 * r = ap (λ (z : ℕ). z * r) e in grind arith

divisor : (n d : ℕ) → n * d ≡ 192 → n ≤ 192
divisor n d e = elim (eq-zero-or-pos d) [ inl z ↦ nothing z | inr h ↦ omega (arith, mul-le-mul_left n (some h)) ]
  where
    nothing : d ≡ 0 → n ≤ 192
    nothing z = let f : n * d ≡ n * 0 = ap (λ (k : ℕ). n * k) z in absurd (omega arith)

    some : 0 < d → 1 ≤ d
    some h = omega arith

pub beat-exact : (m r n : ℕ) → r < n → BeatExact m r n
beat-exact m r n R M e =
    let d = 192 / n in
    let all : n * d ≡ 192 = omega arith in
    ap (λ (z : ℕ). z * n) (exact m r n (192 * m + d * r) R (divisor n d all) M (quotient m r n d all)) ∙ sums m r n d all
  where
    sums : (m r n d : ℕ) → n * d ≡ 192 → (192 * m + d * r) * n ≡ 192 * m * n + 192 * r
    sums m r n d e = let f : n * d * r ≡ 192 * r = ap (λ (z : ℕ). z * r) e in grind arith
