-- The last beat in 48ths is a whole number nearest to 192 × m + 192 × r / n. Assumes nothing.
-- Floats are counted in units of the smallest f64, of which `one` make 1. Rounding moves the quotient, the sum and the product by 2^-53 of
-- themselves each. What they stand for is a fraction of denominator n, and so 1 / 2n at least from a half that it is not: m × n is so small in a
-- text that the product does not pass a half.
use Rattle.std.proofs.Common.{◌≡◌, ℕ, ◌+◌, ◌-◌, ◌*◌, ◌^◌, ◌<◌, ◌≤◌, Bool, true, false, not, T, leb, sym, refl, ap, ◌∙◌, subst, ap₂, lt_of_mul-lt-mul_right, le_of_mul-le-mul_right, mul-le-mul_left, mul-le-mul_right, mul-one, one-mul, arith, lit<, lit≤, leb→le, pow_pos}
use lib.Dec.{nleb→lt}
use lib.Ieee.{Float, binary64, round, mul, div}
use lib.Ieee.Exact.{HasValue}
use lib.Ieee.Nearest.{closest, closest_same}
use lib.Ieee.Scale.{grid}
use lib.Ieee.Positive.{num, den, den_pos, value→cross}
use lib.Ieee.Back.{round_whole}
use Rattle.definitions.specs.Sizes.{most_bytes}
use Rattle.definitions.specs.Beats.{f64, beat, whole, last_row}
use Rattle.definitions.specs.BeatsNear.{Within, Nearest48}
use Rattle.beats.proofs.Values.{rescale, add_at, mul_at, div-at, of-whole}
use Rattle.beats.proofs.Upto.{grid-value, grid-most}
use Rattle.beats.proofs.Rounding.{ApartBy, within-half, round-small}

-- ---- on whole numbers: U, B and X are 4 × r / n, the beat and the beat times 48; W is nearest to X
module _ (U B X m r n L : ℕ) (R : r < n) (N : n < 2 ^ 22) (M : m * n ≤ 2 ^ 43) (l : 2 ^ 58 ≤ L)
    (u : ApartBy (2 ^ 53) (U * n) (4 * r * L) (4 * r * L + n * 2 ^ 52))
    (b : ApartBy (2 ^ 53) B (4 * m * L + U) (4 * m * L + U + 2 ^ 52))
    (x : ApartBy (2 ^ 53) X (B * 48) (B * 48 + 2 ^ 52)) where
  abbrev S : ℕ
  S = 192 * m * n + 192 * r

  mnL : m * n * L ≤ 2 ^ 43 * L
  mnL = mul-le-mul_right L M

  rL : r * L ≤ 2 ^ 22 * L
  rL = mul-le-mul_right L (omega arith)

  most : 2 * (X * n) < 2 * (S * L) + L
  most =
      let bn = mul-le-mul_right n b.most in
      let xn = mul-le-mul_right n x.most in
      grind (arith, mnL, rL, u.most)

  least : 2 * (S * L) < 2 * (X * n) + L
  least =
      let bn = mul-le-mul_right n b.least in
      let xn = mul-le-mul_right n x.least in
      grind (arith, mnL, rL, u.least)

  pub nearest : (W : ℕ) → ApartBy 2 (W * L) X L → Within 1 2 W 1 S n
  nearest W h =
      let hm = mul-le-mul_right n h.most in
      let hl = mul-le-mul_right n h.least in
      let over : 2 * (W * n) * L < (2 * S + n + 1) * L = grind (arith, most) in
      let under : 2 * S * L < (2 * (W * n) + n + 1) * L = grind (arith, least) in
      let o = lt_of_mul-lt-mul_right L over in
      let d = lt_of_mul-lt-mul_right L under in
      record { most = omega (arith, o); least = omega (arith, d) }

-- a whole number of units, rounded
over-one : (g a L : ℕ) → 0 < L → ApartBy (2 * 2 ^ 52) (g * L) (a * L) (a * L + L * 2 ^ 52) → ApartBy (2 ^ 53) g a (a + 2 ^ 52)
over-one g a L P h =
    record { most = le_of_mul-le-mul_right {k = L} (grind (arith, h.most)) P; least = le_of_mul-le-mul_right {k = L} (grind (arith, h.least)) P }

-- ---- the floats
abbrev one : ℕ
one = 2 ^ 1074

rounded : (a : ℕ) → ApartBy (2 ^ 53) (grid binary64 a one) a (a + 2 ^ 52)
rounded a = over-one (grid binary64 a one) a one (pow_pos 1074) (round-small binary64 52 a one refl (pow_pos 1074))

module _ (m r n : ℕ) (R : r < n) (N : n < 2 ^ 22) (M : m ≤ 2 ^ 23) where
  P : 0 < n
  P = omega arith

  abbrev U : ℕ
  U = grid binary64 (4 * r) n

  abbrev B : ℕ
  B = grid binary64 (4 * m * one + U) one

  abbrev X : ℕ
  X = grid binary64 (B * 48) one

  product : (a b : ℕ) → a ≤ 2 ^ 53 → b ≤ 2 ^ 53 → a * b ≤ 2 ^ 53 → HasValue (mul binary64 (f64 a) (f64 b)) false (a * b) 1
  product a b x y z =
      subst (λ (w : Float). HasValue w false (a * b) 1)
      (sym (mul_at binary64 (f64 a) (f64 b) a 1 b 1 (lit< tt) (lit< tt) (of-whole binary64 a x) (of-whole binary64 b y)))
      (round_whole binary64 false (a * b) z)

  quotient-at : HasValue (div binary64 (mul binary64 (f64 4) (f64 r)) (f64 n)) false U one
  quotient-at =
      let four = mul binary64 (f64 4) (f64 r) in
      let v : HasValue four false (4 * r) 1 = product 4 r (lit≤ tt) (omega arith) (omega arith) in
      subst (λ (w : Float). HasValue w false U one)
      (sym (div-at binary64 four (f64 n) (4 * r) 1 n 1 (lit< tt) (lit< tt) P v (of-whole binary64 n (omega arith))
      ∙ ap₂ (round binary64 false) (mul-one (4 * r)) (one-mul n)))
      (grid-value binary64 (4 * r) n 4 P (omega arith) (lit< tt))

  U-most : U ≤ 9 * one
  U-most = grid-most binary64 (4 * r) n 4 P (omega arith)

  sum-most : 4 * m * one + U ≤ 33554441 * one
  sum-most = omega (arith, U-most)

  beat_at : HasValue (beat m r n) false B one
  unfolding beat
  beat_at =
      let four = mul binary64 (f64 m) (f64 4) in
      let w : HasValue four false (m * 4) 1 = product m 4 (omega arith) (lit≤ tt) (omega arith) in
      let v : HasValue four false (4 * m * one) one = rescale four false (m * 4) 1 (4 * m * one) one (lit< tt) (omega arith) w in
      subst (λ (w : Float). HasValue w false B one) (sym (add_at binary64 four _ (4 * m * one) U one (pow_pos 1074) v quotient-at))
      (grid-value binary64 (4 * m * one + U) one 33554441 (pow_pos 1074) sum-most (lit< tt))

  B-most : B * 48 ≤ 3221226384 * one
  B-most = omega (arith, grid-most binary64 (4 * m * one + U) one 33554441 (pow_pos 1074) sum-most)

  last-at : HasValue (mul binary64 (beat m r n) (f64 48)) false X one
  last-at =
      subst (λ (w : Float). HasValue w false X one)
      (sym (mul_at binary64 (beat m r n) (f64 48) B one 48 1 (pow_pos 1074) (lit< tt) beat_at (of-whole binary64 48 (lit≤ tt))
      ∙ ap (λ (z : ℕ). round binary64 false (B * 48) z) (mul-one one)))
      (grid-value binary64 (B * 48) one 3221226384 (pow_pos 1074) B-most (lit< tt))

  last-is : closest X one ≡ last_row m r n
  unfolding last_row whole
  last-is =
      let x = mul binary64 (beat m r n) (f64 48) in
      sym (closest_same (num x) (den x) X one (den_pos x) (pow_pos 1074) (value→cross x X one last-at))

  near : m * n ≤ 2 ^ 43 → Nearest48 (last_row m r n) m r n
  near h =
      let u = round-small binary64 52 (4 * r) n refl P in
      let b = rounded (4 * m * one + U) in
      let x = rounded (B * 48) in
      subst (λ (k : ℕ). Nearest48 k m r n) last-is
      (nearest U B X m r n one R N h (lit≤ tt) u b x (closest X one) (within-half X one (pow_pos 1074)))

-- ---- m × n is at most 2^43 in a text: n rows of 5 bytes or more, and 2 bytes for each of m measures
square : (a b t T : ℕ) → a + t ≡ T → a + b ≤ 2 * T → a * b ≤ T * T
square a b t T e h =
    let k : a * b ≤ a * (a + 2 * t) = mul-le-mul_left a (omega arith) in
    let f : T * T ≡ (a + t) * (a + t) = ap (λ (z : ℕ). z * z) (sym e) in
    grind arith

in-a-text : (m n : ℕ) → 5 * n + 2 * m ≤ 2 ^ 24 → m * n ≤ 2 ^ 43
in-a-text m n h = go (leb (5 * n) (2 ^ 23)) (leb→le (5 * n) (2 ^ 23)) (nleb→lt (5 * n) (2 ^ 23))
  where
    few : 5 * n * (2 * m) ≤ 2 ^ 23 * 2 ^ 23 → m * n ≤ 2 ^ 43
    few h = grind arith

    few' : 2 * m * (5 * n) ≤ 2 ^ 23 * 2 ^ 23 → m * n ≤ 2 ^ 43
    few' h = grind arith

    go : (t : Bool) → (T t → 5 * n ≤ 2 ^ 23) → (T (not t) → 2 ^ 23 < 5 * n) → m * n ≤ 2 ^ 43
    go true x y = let l = x tt in few (square (5 * n) (2 * m) (2 ^ 23 - 5 * n) (2 ^ 23) (omega arith) (omega arith))
    go false x y = let l = y tt in few' (square (2 * m) (5 * n) (2 ^ 23 - 2 * m) (2 ^ 23) (omega arith) (omega arith))

-- ---- in the words of the claim
pub last-nearest : (m r n : ℕ) → r < n → 5 * n + 2 * m ≤ most_bytes + 1 → Nearest48 (last_row m r n) m r n
last-nearest m r n R h = near m r n R (omega arith) (omega arith) (in-a-text m n h)
