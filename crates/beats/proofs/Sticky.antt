-- A float keeps 24 digits, so of a number with more only the first 25 count, and whether anything but zeros follows them: with q of 25 digits or more and
-- 0 < r < D, q * D + r and q * 2 + 1 round alike, each in its own unit. Assumes nothing.
use Rattle.std.proofs.Common.{◌≡◌, ℕ, suc, ◌+◌, ◌-◌, ◌*◌, ◌/◌, ◌%◌, ◌^◌, ◌<◌, ◌≤◌, Bool, true, false, cond, not, T, ltb, sym, refl, ap, ◌∙◌, subst, ap₂, le_trans, le_of_eq, lt_of_lt_of_le, le-add_right, lt_of_le_of_lt, le_of_lt, add_assoc, mul-le-mul_right, mul_assoc, suc-mul, mul_comm, div-lt_iff_lt-mul, add-mul, mul-lt-mul_of_pos_right, mul-pos, le-div_iff_mul-le, arith, lit<, ltb→lt, nltb→le, pow_pos, pow-add}
use Prim.Native.Nat.{compare, Ordering}
use native.Mathlib.Nat.{div-div-eq-div-mul, two-pow-succ}
use lib.Arith.{digits_div, digits_mod, digits_lt, mod-mul}
use lib.Ieee.{Format, binary32, prec, low, size, nearest, units, round}
use lib.Ieee.Digits.{size-lt, size-le, size_reaches}
use lib.Ieee.Fits.{core, round_is, two, two-le_pos}
use lib.Ieee.Nearest.{closest, closest_same}
use Rattle.beats.proofs.Numbers.{cmp-lt, cmp-gt, size-gt}

-- ---- `round`, where the number of digits that it drops is known
round-at : (f : Format) (s : Bool) (a c k : ℕ) → 0 < c → 2 ^ (prec f - 1 + k) * c ≤ a * 2 ^ low f → a * 2 ^ low f < 2 ^ (prec f + k) * c
    → round f s a c ≡ units f s (closest (a * 2 ^ low f) (c * 2 ^ k)) k
round-at f s a c k C lo hi =
    let w = a * 2 ^ low f / c in
    round_is f s a c
    ∙ ap (λ (z : ℕ). core f s (a * 2 ^ low f) c z)
    (dropped (size w) (prec f) k (two-le_pos (prec f) (two f))
    (size-le w (prec f + k) ((div-lt_iff_lt-mul C).1 hi))
    (size-gt w (prec f - 1 + k) ((le-div_iff_mul-le C).1 lo)))
  where
    dropped : (z p k : ℕ) → 0 < p → z ≤ p + k → p - 1 + k < z → z - p ≡ k
    dropped z p k P a b = omega arith

-- ---- q * D + r to the nearest multiple of D * 2 ^ (i + 1), for 0 < r < D: never a tie
under : (t D r h E : ℕ) → suc t * D ≤ h * D → r < D → D * E ≡ h * D * 2 → (t * D + r) * 2 < D * E
under t D r h E a b e =
    let x : suc t * D ≡ t * D + D = suc-mul t D in
    omega arith

over : (t D r h E : ℕ) → h * D ≤ t * D → 0 < r → D * E ≡ h * D * 2 → D * E < (t * D + r) * 2
over t D r h E a b e = omega arith

no_tie : (q D r i : ℕ) → 0 < r → r < D → closest (q * D + r) (D * 2 ^ suc i) ≡ cond (ltb (q % 2 ^ suc i) (2 ^ i)) (q / 2 ^ suc i) (suc (q / 2 ^ suc i))
no_tie q D r i R S =
    let E = 2 ^ suc i in
    let h = 2 ^ i in
    let t = q % E in
    let n = q * D + r in
    let DP : 0 < D = lt_of_le_of_lt (le_of_lt R) S in
    let fl : n / (D * E) ≡ q / E = sym (div-div-eq-div-mul n D E) ∙ ap (λ (z : ℕ). z / E) (digits_div q S) in
    let md : n % (D * E) ≡ t * D + r = ap (λ (z : ℕ). n % z) (mul_comm D E) ∙ mod-mul n (pow_pos (suc i)) DP ∙ ap₂ (λ (x y : ℕ). x % E * D + y) (digits_div q S) (digits_mod q S) in
    let e : D * E ≡ h * D * 2 = ap (λ (z : ℕ). D * z) (two-pow-succ i) ∙ twice D h in
    ap₂ (λ (x y : ℕ). nearest x (compare (y * 2) (D * E))) fl md ∙ go (ltb t h) (ltb→lt t h) (nltb→le t h) e
  where
    twice : (D h : ℕ) → D * (h + h) ≡ h * D * 2
    twice D h = mul_comm D (h + h) ∙ add-mul h h D ∙ two-of (h * D)
      where
        two-of : (x : ℕ) → x + x ≡ x * 2
        two-of x = omega arith

    go : (b : Bool) → (T b → q % 2 ^ suc i < 2 ^ i) → (T (not b) → 2 ^ i ≤ q % 2 ^ suc i) → D * 2 ^ suc i ≡ 2 ^ i * D * 2
        → nearest (q / 2 ^ suc i) (compare ((q % 2 ^ suc i * D + r) * 2) (D * 2 ^ suc i)) ≡ cond b (q / 2 ^ suc i) (suc (q / 2 ^ suc i))
    go true x y e =
        ap (λ (o : Ordering). nearest (q / 2 ^ suc i) o)
        (cmp-lt ((q % 2 ^ suc i * D + r) * 2) (D * 2 ^ suc i) (under (q % 2 ^ suc i) D r (2 ^ i) (2 ^ suc i) (mul-le-mul_right D (x tt)) S e))
    go false x y e =
        ap (λ (o : Ordering). nearest (q / 2 ^ suc i) o)
        (cmp-gt ((q % 2 ^ suc i * D + r) * 2) (D * 2 ^ suc i) (over (q % 2 ^ suc i) D r (2 ^ i) (2 ^ suc i) (mul-le-mul_right D (y tt)) R e))

-- ---- a float of q * D + r over c, where D / c is 2 ^ K times the format's smallest value
module _ (f : Format) (D c K : ℕ) (C : 0 < c) (DP : 0 < D) (unit : D * 2 ^ low f ≡ c * 2 ^ K) where
  shift : (x : ℕ) → 2 ^ (x + K) * c ≡ 2 ^ x * D * 2 ^ low f
  shift x =
      ap (λ (z : ℕ). z * c) (pow-add 2 x K)
      ∙ mul_assoc (2 ^ x) (2 ^ K) c
      ∙ ap (λ (z : ℕ). 2 ^ x * z) (mul_comm (2 ^ K) c ∙ sym unit)
      ∙ sym (mul_assoc (2 ^ x) D (2 ^ low f))

  shifted : (p j : ℕ) → 2 ^ (p + (j + K)) * c ≡ 2 ^ (p + j) * D * 2 ^ low f
  shifted p j = ap (λ (z : ℕ). 2 ^ z * c) (sym (add_assoc p j K)) ∙ shift (p + j)

  at : (q r j : ℕ) → r < D → 2 ^ (prec f - 1 + j) ≤ q → q < 2 ^ (prec f + j) → round f false (q * D + r) c ≡ units f false (closest (q * D + r) (D * 2 ^ j)) (j + K)
  at q r j R lo hi =
      let n = q * D + r in
      let l = 2 ^ low f in
      round-at f false n c (j + K) C
      (le_trans (le_of_eq (shifted (prec f - 1) j)) (mul-le-mul_right l (le_trans (mul-le-mul_right D lo) (le-add_right (q * D) r))))
      (lt_of_lt_of_le (mul-lt-mul_of_pos_right (digits_lt hi R) (pow_pos (low f))) (le_of_eq (sym (shifted (prec f) j))))
      ∙ ap (λ (z : ℕ). units f false z (j + K))
      (closest_same (n * l) (c * 2 ^ (j + K)) n (D * 2 ^ j) (mul-pos C (pow_pos (j + K))) (mul-pos DP (pow_pos j))
      (mul_assoc n l (D * 2 ^ j) ∙ ap (λ (z : ℕ). n * z) (mul_comm l (D * 2 ^ j) ∙ ap (λ (z : ℕ). z * l) (mul_comm D (2 ^ j)) ∙ sym (shift j) ∙ mul_comm (2 ^ (j + K)) c)))

-- ---- q has 25 digits or more. 2 ^ 23 / 2 ^ 43 and 2 / 2 ^ 21 are its unit
pub sticky : (q r : ℕ) → 2 ^ 24 ≤ q → 0 < r → r < 2 ^ 23 → round binary32 false (q * 2 ^ 23 + r) (2 ^ 43) ≡ round binary32 false (q * 2 + 1) (2 ^ 21)
sticky q r Q R S =
    let z = size q in
    let i = z - 25 in
    let Z : 24 < z = size-gt q 24 Q in
    let lo : 2 ^ (23 + suc i) ≤ q = size_reaches q (23 + suc i) (enough z Z) in
    let hi : q < 2 ^ (24 + suc i) = subst (λ (x : ℕ). q < 2 ^ x) (exactly z Z) (size-lt q) in
    at binary32 (2 ^ 23) (2 ^ 43) 129 (lit< tt) (lit< tt) refl q r (suc i) S lo hi
    ∙ ap (λ (x : ℕ). units binary32 false x (suc i + 129)) (no_tie q (2 ^ 23) r i R S ∙ sym (no_tie q 2 1 i (lit< tt) (lit< tt)))
    ∙ sym (at binary32 2 (2 ^ 21) 129 (lit< tt) (lit< tt) refl q 1 (suc i) (lit< tt) lo hi)
  where
    enough : (z : ℕ) → 24 < z → 23 + suc (z - 25) < z
    enough z h = omega arith

    exactly : (z : ℕ) → 24 < z → z ≡ 24 + suc (z - 25)
    exactly z h = omega arith
