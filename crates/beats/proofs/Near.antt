-- A row beat in the measures below 2^j is within (2^j + 2) / 2^23 of 4 × m + 4 × r / n, and so one in the measures 0 to 1,023 within 1/8176.
-- Assumes nothing. Floats are counted in units of the smallest f32, of which `one` make 1. Rounding moves the step by 2^-24 of itself, so that r
-- steps are out by less than 2 / 2^23, and the sum, which is below 2^(j + 2), by 2^j / 2^23 at most.
use Rattle.std.proofs.Common.{◌≡◌, ℕ, ◌+◌, ◌-◌, ◌*◌, ◌^◌, ◌<◌, ◌≤◌, false, sym, refl, ap, ◌∙◌, subst, lt_of_mul-lt-mul_right, le_of_mul-le-mul_right, mul-le-mul_left, mul-le-mul_right, mul-lt-mul_of_pos_right, pow_mono, pow-add, arith, lit<, lit≤}
use lib.Ieee.{Float, binary32}
use lib.Ieee.Exact.{HasValue}
use lib.Ieee.Scale.{grid}
use lib.Ieee.Positive.{num, den, value→cross}
use Rattle.definitions.specs.Beats.{step, beat_of_row}
use Rattle.definitions.specs.BeatsNear.{Within, BeatWithin, BeatNear, BeatToSpare}
use Rattle.beats.proofs.Step.{step_is}
use Rattle.beats.proofs.Row.{fused-is}
use Rattle.beats.proofs.Upto.{own, grid-value}
use Rattle.beats.proofs.Rounding.{ApartBy, unit, round-half, unit-most, round-small}

-- ---- from one fraction to another of the same size
pub within-same : (e k a b a' b' c d : ℕ) → 0 < b → a' * b ≡ a * b' → Within e k a b c d → Within e k a' b' c d
within-same e k a b a' b' c d B same h =
    let f : a' * b * d * k ≡ a * b' * d * k = ap (λ (z : ℕ). z * d * k) same in
    let most = mul-le-mul_right b' h.most in
    let least = mul-le-mul_right b' h.least in
    record { most = le_of_mul-le-mul_right {k = b} (grind arith) B; least = le_of_mul-le-mul_right {k = b} (grind arith) B }

-- ---- on whole numbers: G, A and g are the step, the exact sum and the row beat; below u measures
step-apart : (G n L : ℕ) → n < 2 ^ 22 → ApartBy (2 * 2 ^ 23) (G * n) (4 * L) (4 * L + n * 2 ^ 23)
    → ApartBy (2 ^ 24) (G * n) (4 * L) (4 * L + 2 ^ 45)
step-apart G n L N h = record { most = omega (arith, h.most); least = omega (arith, h.least) }

step-below : (G r n L : ℕ) → 2 ^ 67 ≤ L → r < n → n < 2 ^ 22 → ApartBy (2 ^ 24) (G * n) (4 * L) (4 * L + 2 ^ 45) → r * G < 4 * L
step-below G r n L P R N h =
    let a = mul-le-mul_left r h.most in
    let b : (r * (2 ^ 26 + 5)) * L < (2 ^ 26 * n) * L = mul-lt-mul_of_pos_right (omega arith) (omega arith) in
    lt_of_mul-lt-mul_right n (grind arith)

near-by : (G A g m r n L u : ℕ) → 2 ^ 67 ≤ L → A ≡ r * G + 4 * m * L → r < n → n < 2 ^ 22
    → ApartBy (2 ^ 24) (G * n) (4 * L) (4 * L + 2 ^ 45) → ApartBy (2 ^ 23) g A (u * L)
    → Within (u + 2) (2 ^ 23) g L (4 * m * n + 4 * r) n
near-by G A g m r n L u P e R N h k =
    let a = mul-le-mul_left r h.most in
    let b = mul-le-mul_left r h.least in
    let c = mul-le-mul_left n k.most in
    let d = mul-le-mul_left n k.least in
    let f : n * A ≡ n * (r * G + 4 * m * L) = ap (λ (z : ℕ). n * z) e in
    let s : (r + 1) * L ≤ n * L = mul-le-mul_right L (omega arith) in
    let t : r * 2 ^ 45 ≤ L = omega arith in
    record { most = grind arith; least = grind arith }

-- ---- the floats
abbrev one : ℕ
one = 2 ^ 149

module _ (m r n j : ℕ) (R : r < n) (S : n < 2 ^ 22) (J : j ≤ 23) (M : m < 2 ^ j) where
  P : 0 < n
  P = omega arith

  abbrev G : ℕ
  G = grid binary32 4 n

  abbrev A : ℕ
  A = r * G + 4 * m * one

  abbrev g : ℕ
  g = grid binary32 A one

  step-at : HasValue (step n) false G one
  step-at = subst (λ (x : Float). HasValue x false G one) (sym (step_is n P S)) (grid-value binary32 4 n 4 P (omega arith) (lit< tt))

  step-near : ApartBy (2 ^ 24) (G * n) (4 * one) (4 * one + 2 ^ 45)
  step-near = step-apart G n one S (round-small binary32 23 4 n refl P)

  few : 2 ^ j ≤ 2 ^ 23
  few = pow_mono J

  A-below : A < 4 * 2 ^ j * one
  A-below = let a = mul-le-mul_right one M in omega (arith, step-below G r n one (lit≤ tt) R S step-near, a)

  sum-near : ApartBy (2 ^ 23) g A (2 ^ j * one)
  sum-near =
      let h = round-half binary32 A one (lit< tt) in
      let above : 2 ^ (j + 151) ≡ 2 ^ j * 2 ^ 151 = pow-add 2 j 151 in
      let half : 2 ^ (j + 151 - 24) ≡ 2 ^ j * 2 ^ 127 = ap (λ (z : ℕ). 2 ^ z) (fewer j) ∙ pow-add 2 j 127 in
      let u : unit binary32 A one ≤ 2 ^ (j + 151 - 24) = unit-most binary32 A one (j + 151) (lit< tt) (omega (arith, A-below, above)) in
      record { most = omega (arith, h.most, u, half); least = omega (arith, h.least, u, half) }
    where
      fewer : (j : ℕ) → j + 151 - 24 ≡ j + 127
      fewer j = omega arith

  beat_at : HasValue (beat_of_row m r n) false g one
  unfolding beat_of_row
  beat_at =
      subst (λ (x : Float). HasValue x false g one) (sym (fused-is r (4 * m) G one (step n) (lit< tt) step-at))
      (grid-value binary32 A one (4 * 2 ^ j) (lit< tt) (omega (arith, A-below)) (omega (arith, few)))

  pub beat-nearer : BeatWithin (2 ^ j + 2) (2 ^ 23) m r n
  beat-nearer =
      let x = beat_of_row m r n in
      record {
        value = own x g one beat_at;
        size =
            within-same (2 ^ j + 2) (2 ^ 23) g one (num x) (den x) (4 * m * n + 4 * r) n (lit< tt) (value→cross x g one beat_at)
            (near-by G A g m r n one (2 ^ j) (lit≤ tt) refl R S step-near sum-near);
      }

-- 1026 / 8388608 is a little less than 1 / 8176
pub beat-to-spare : (m r n : ℕ) → r < n → n < 2 ^ 22 → BeatToSpare m r n
beat-to-spare m r n R S M =
    let h : BeatWithin (2 ^ 10 + 2) (2 ^ 23) m r n = beat-nearer m r n 10 R S (lit≤ tt) (omega arith) in
    record { value = h.value; size = record { most = omega (arith, h.size.most); least = omega (arith, h.size.least) } }

pub beat-near : (m r n : ℕ) → r < n → n < 2 ^ 22 → BeatNear m r n
beat-near m r n R S M =
    let h : BeatWithin 1 8176 m r n = beat-to-spare m r n R S M in
    record { value = h.value; size = record { most = omega (arith, h.size.most); least = omega (arith, h.size.least) } }
