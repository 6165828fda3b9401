-- The row beat from the step in units of 2 ^ -43, in the cases of `mul_add`. P is r times those units. Assumes nothing.
use Rattle.std.proofs.Common.{◌≡◌, ℕ, ◌+◌, ◌*◌, ◌/◌, ◌%◌, ◌^◌, ◌<◌, ◌≤◌, false, sym, ap, ◌∙◌, ap₂, le_trans, le_of_eq, lt_of_le_of_lt, le_of_lt, mul-le-mul_right, mul_assoc, mul_comm, add-mul, mul_right_comm, arith, lit<}
use lib.Ieee.{Float, binary32, round}
use lib.Ieee.Exact.{HasValue}
use lib.Ieee.Scale.{round_same}
use lib.Ieee.Positive.{num, den, den_pos, value→cross}
use Rattle.definitions.specs.Beats.{step, fused, beat_of_row}
use Rattle.beats.proofs.Sticky.{sticky}

cross : (r N a d s c : ℕ) → N * c ≡ s * d → (r * N + a * d) * c ≡ (r * s + a * c) * d
cross r N a d s c h =
    add-mul (r * N) (a * d) c
    ∙ ap₂ ◌+◌ (mul_assoc r N c ∙ ap (λ (z : ℕ). r * z) h ∙ sym (mul_assoc r s d)) (mul_right_comm a d c)
    ∙ sym (add-mul (r * s) (a * c) d)

pub fused-is : (r a s c : ℕ) (x : Float) → 0 < c → HasValue x false s c → fused r x a ≡ round binary32 false (r * s + a * c) c
unfolding fused
fused-is r a s c x C v =
    round_same binary32 false (r * num x + a * den x) (den x) (r * s + a * c) c (den_pos x) C (cross r (num x) a (den x) s c (value→cross x s c v))

pub beat-is : (m r n s : ℕ) → HasValue (step n) false s (2 ^ 43) → round binary32 false (r * s + 4 * m * 2 ^ 43) (2 ^ 43) ≡ beat_of_row m r n
unfolding beat_of_row
beat-is m r n s v = sym (fused-is r (4 * m) s (2 ^ 43) (step n) (lit< tt) v)

-- where n steps are 4 beats, row r of measure m is m × n + r steps after beat 0
pub steps-are : (m r n s : ℕ) → s * n ≡ 35184372088832 → round binary32 false ((m * n + r) * s) (2 ^ 43) ≡ round binary32 false (r * s + 4 * m * 2 ^ 43) (2 ^ 43)
steps-are m r n s e = ap (λ (x : ℕ). round binary32 false x (2 ^ 43)) same
  where
    whole : m * n * s ≡ m * 35184372088832
    whole = mul_assoc m n s ∙ ap (λ (x : ℕ). m * x) (mul_comm n s ∙ e)

    same : (m * n + r) * s ≡ r * s + 4 * m * 2 ^ 43
    same = add-mul (m * n) r s ∙ omega (arith, whole)

-- r steps stay below 8
pub product : (r n s : ℕ) → r < n → s * n < 2 ^ 46 → r * s < 2 ^ 46
product r n s h k = lt_of_le_of_lt (le_trans (mul-le-mul_right s (le_of_lt h)) (le_of_eq (mul_comm n s))) k

-- ---- the cases
pub near : (m P : ℕ) → round binary32 false (m * 35184372088832 + P) (2 ^ 43) ≡ round binary32 false (P + 4 * m * 2 ^ 43) (2 ^ 43)
near m P = ap (λ (x : ℕ). round binary32 false x (2 ^ 43)) (sum m P)
  where
    sum : (m P : ℕ) → m * 35184372088832 + P ≡ P + 4 * m * 2 ^ 43
    sum m P = omega arith

pub even : (m P : ℕ) → P % 8388608 ≡ 0 → round binary32 false ((m * 4194304 + P / 8388608) * 2) (2 ^ 21) ≡ round binary32 false (P + 4 * m * 2 ^ 43) (2 ^ 43)
even m P h =
    round_same binary32 false ((m * 4194304 + P / 8388608) * 2) (2 ^ 21) (P + 4 * m * 2 ^ 43) (2 ^ 43) (lit< tt) (lit< tt) (same m P h)
  where
    same : (m P : ℕ) → P % 8388608 ≡ 0 → (m * 4194304 + P / 8388608) * 2 * 2 ^ 43 ≡ (P + 4 * m * 2 ^ 43) * 2 ^ 21
    same m P h = omega arith

pub odd : (m P : ℕ) → 4 ≤ m → (P % 8388608 ≡ 0 → ⊥) → round binary32 false ((m * 4194304 + P / 8388608) * 2 + 1) (2 ^ 21) ≡ round binary32 false (P + 4 * m * 2 ^ 43) (2 ^ 43)
odd m P M h =
    sym (sticky (m * 4194304 + P / 8388608) (P % 8388608) (wide m P M) (some (P % 8388608) h) (less P))
    ∙ ap (λ (x : ℕ). round binary32 false x (2 ^ 43)) (parts m P)
  where
    parts : (m P : ℕ) → (m * 4194304 + P / 8388608) * 2 ^ 23 + P % 8388608 ≡ P + 4 * m * 2 ^ 43
    parts m P = omega arith

    wide : (m P : ℕ) → 4 ≤ m → 2 ^ 24 ≤ m * 4194304 + P / 8388608
    wide m P h = omega arith

    some : (x : ℕ) → (x ≡ 0 → ⊥) → 0 < x
    some x h = omega arith

    less : (x : ℕ) → x % 8388608 < 2 ^ 23
    less x = omega arith
