-- The step 4 / n of n rows, for n below 2 ^ 22: a whole number s of 2 ^ -43, with s * n below 2 ^ 46; and s itself is an f32 exactly. Assumes nothing.
use Rattle.std.proofs.Common.{◌≡◌, ℕ, ◌+◌, ◌-◌, ◌*◌, ◌/◌, ◌%◌, ◌^◌, ◌<◌, ◌≤◌, false, pos, sym, ap, ◌∙◌, subst, inl, inr, le_trans, le_of_eq, lt_of_lt_of_le, lt_of_le_of_lt, add-zero, le_of_lt, mul-le-mul_right, mul_assoc, suc-mul, mul_comm, lt_of_mul-lt-mul_right, eq-or-lt_of_le, mul-le-mul_left, mul-lt-mul_of_pos_right, one-mul, le-div_iff_mul-le, mul-one, mul_right_comm, div-mul-le_self, mul_left_comm, arith, lit<, lit≤, pow_pos, pow-add}
use Prim.Native.Nat.{compare}
use native.Mathlib.Nat.{div-div-eq-div-mul}
use lib.Ieee.{Float, fin, binary32, size, round, mul}
use lib.Ieee.Digits.{size_reaches}
use lib.Ieee.Fits.{nearest-le, kept-lt}
use lib.Ieee.Exact.{HasValue}
use lib.Ieee.Nearest.{closest}
use lib.Ieee.Order.{drop, kept}
use lib.Ieee.Scale.{round_same, round_val, grid}
use Rattle.definitions.specs.Beats.{f32, step}
use Rattle.beats.proofs.Numbers.{size-gt}
use Rattle.beats.proofs.Values.{rescale, div-at, mul_at, of-whole, power, exact}

-- ---- a rounded number by its unit is at most half as much again
near : (N U : ℕ) → U * 2 ≤ N → 0 < N → closest N U * U < N + N
near N U h P =
    three_halves (closest N U * U) (N / U * U) U N
    (le_trans (mul-le-mul_right U (nearest-le (N / U) (compare (N % U * 2) U))) (le_of_eq (suc-mul (N / U) U)))
    (div-mul-le_self N U) h P
  where
    three_halves : (K q U N : ℕ) → K ≤ q + U → q ≤ N → U * 2 ≤ N → 0 < N → K < N + N
    three_halves K q U N a b c d = omega arith

-- ---- a whole number of at most 24 digits, and the carry
whole-exact : (q j : ℕ) → q ≤ 2 ^ 24 → q * 2 ^ j < 2 ^ 46 → HasValue (round binary32 false (q * 2 ^ j) 1) false (q * 2 ^ j) 1
whole-exact q j h k =
    elim (eq-or-lt_of_le h) [
      | inl e ↦
          subst (λ (z : ℕ). HasValue (round binary32 false z 1) false z 1) (carry e)
          (at 1 (24 + j) (lit< tt) (subst (λ (z : ℕ). z < 2 ^ 46) (sym (carry e)) k))
      | inr l ↦ at q j l k
    ]
  where
    carry : q ≡ 2 ^ 24 → 1 * 2 ^ (24 + j) ≡ q * 2 ^ j
    carry e = one-mul (2 ^ (24 + j)) ∙ pow-add 2 24 j ∙ ap (λ (z : ℕ). z * 2 ^ j) (sym e)

    at : (a i : ℕ) → a < 2 ^ 24 → a * 2 ^ i < 2 ^ 46 → HasValue (round binary32 false (a * 2 ^ i) 1) false (a * 2 ^ i) 1
    at a i A B =
        let e : a * 2 ^ (i + 149) ≡ a * 2 ^ i * 2 ^ 149 = ap (λ (z : ℕ). a * z) (pow-add 2 i 149) ∙ sym (mul_assoc a (2 ^ i) (2 ^ 149)) in
        exact binary32 a i 0 (i + 149) (add-zero (i + 149)) A
        (lt_of_lt_of_le (lt_of_le_of_lt (le_of_eq e) (mul-lt-mul_of_pos_right B (pow_pos 149))) (lit≤ tt))

-- ---- what `round` keeps of 4 / n, counted in the smallest floats: `digits`, after it has dropped so many
abbrev top : ℕ
top = 4 * 2 ^ 149

abbrev dropped : ℕ → ℕ
dropped n = drop 24 top n

abbrev digits : ℕ → ℕ
digits n = kept 24 top n

-- the step in units of 2 ^ -43
abbrev pub units : ℕ → ℕ
units n = digits n * 2 ^ (dropped n - 106)

module _ (n : ℕ) (P : 0 < n) (S : n < 2 ^ 22) where
  long : 129 < size (top / n)
  long = size-gt (top / n) 129 ((le-div_iff_mul-le P).1 (mul-le-mul_left (2 ^ 129) (le_of_lt S)))

  grid-is : units n * 2 ^ 106 ≡ grid binary32 4 n
  grid-is =
      mul_assoc (digits n) (2 ^ (dropped n - 106)) (2 ^ 106)
      ∙ ap (λ (z : ℕ). digits n * z) (sym (pow-add 2 (dropped n - 106) 106) ∙ ap (λ (z : ℕ). 2 ^ z) (back (size (top / n)) long))
    where
      back : (z : ℕ) → 129 < z → z - 24 - 106 + 106 ≡ z - 24
      back z h = omega arith

  half-unit : n * 2 ^ dropped n * 2 ≤ top
  half-unit =
      le_trans (le_of_eq (mul_assoc n (2 ^ dropped n) 2 ∙ mul_comm n (2 ^ dropped n * 2) ∙ ap (λ (z : ℕ). z * n) (mul_comm (2 ^ dropped n) 2 ∙ sym (pow-add 2 1 (dropped n)))))
      ((le-div_iff_mul-le P).0 (size_reaches (top / n) (1 + dropped n) (inside (size (top / n)) long)))
    where
      inside : (z : ℕ) → 129 < z → 1 + (z - 24) < z
      inside z h = omega arith

  pub step-bound : units n * n < 2 ^ 46
  step-bound =
      lt_of_mul-lt-mul_right (2 ^ 106)
      (subst (λ (z : ℕ). z < 2 ^ 152)
      (mul_left_comm (digits n) n (2 ^ dropped n)
      ∙ mul_comm n (digits n * 2 ^ dropped n)
      ∙ ap (λ (z : ℕ). z * n) (sym grid-is)
      ∙ mul_right_comm (units n) (2 ^ 106) n)
      (near top (n * 2 ^ dropped n) half-unit (lit< tt)))

  pub units_lt : units n < 2 ^ 46
  units_lt = lt_of_le_of_lt (le_trans (le_of_eq (sym (mul-one (units n)))) (mul-le-mul_left (units n) P)) step-bound

  digits_le : digits n ≤ 2 ^ 24
  digits_le =
      let U = n * 2 ^ dropped n in
      le_trans (nearest-le (top / U) (compare (top % U * 2) U)) (subst (λ (x : ℕ). x < 2 ^ 24) (div-div-eq-div-mul top n (2 ^ dropped n)) (kept-lt 24 (top / n)))

  pub step_is : step n ≡ round binary32 false 4 n
  unfolding step
  step_is =
      div-at binary32 (f32 4) (f32 n) 4 1 n 1 (lit< tt) (lit< tt) P (of-whole binary32 4 (lit≤ tt)) (of-whole binary32 n (le_trans (le_of_lt S) (lit≤ tt)))
      ∙ ap (λ (z : ℕ). round binary32 false 4 z) (one-mul n)

  pub step_value : HasValue (step n) false (units n) (2 ^ 43)
  step_value =
      subst (λ (z : Float). HasValue z false (units n) (2 ^ 43)) (sym step_is)
      (rescale (round binary32 false 4 n) false (grid binary32 4 n) (2 ^ 149) (units n) (2 ^ 43) (pow_pos 149)
      (ap (λ (z : ℕ). z * 2 ^ 43) (sym grid-is) ∙ mul_assoc (units n) (2 ^ 106) (2 ^ 43))
      (round_val binary32 4 n (subst (λ (z : ℕ). z < 2 ^ 277) grid-is (lt_of_lt_of_le (mul-lt-mul_of_pos_right units_lt (pow_pos 106)) (lit≤ tt)))))

  -- the step in units, as a float
  pub step-float : HasValue (mul binary32 (step n) (fin false 1 (pos 43))) false (units n) 1
  step-float =
      subst (λ (z : Float). HasValue z false (units n) 1)
      (sym (mul_at binary32 (step n) (fin false 1 (pos 43)) (units n) (2 ^ 43) (2 ^ 43) 1 (pow_pos 43) (lit< tt) step_value (power 43)
      ∙ round_same binary32 false (units n * 2 ^ 43) (2 ^ 43 * 1) (units n) 1 (pow_pos 43) (lit< tt) (mul-one (units n * 2 ^ 43))))
      (whole-exact (digits n) (dropped n - 106) digits_le units_lt)
