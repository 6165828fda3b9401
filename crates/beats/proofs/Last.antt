-- The last beat: its size on the way, and the tests of `lrint_f64`, which find the whole number nearest to a float. Assumes nothing.
use Rattle.std.proofs.Common.{◌≡◌, ℕ, suc, ◌+◌, ◌*◌, ◌/◌, ◌%◌, ◌^◌, ◌<◌, ◌≤◌, false, not, T, negsuc, sym, refl, ap, ◌∙◌, subst, ap₂, le_trans, lt_of_lt_of_le, lt_of_le_of_lt, le_of_lt, div-lt_iff_lt-mul, add-mul, mul-lt-mul_of_pos_right, one-mul, div-add-mod', mul-one, mul_right_comm, arith, lit<, lit≤, pow_pos}
use Prim.Native.Nat.{compare, Ordering}
use lib.Ieee.{Float, fin, binary64, nearest, round, add, mul, div, lt, is_nan}
use lib.Ieee.Fits.{nearest-le}
use lib.Ieee.Exact.{HasValue}
use lib.Ieee.Positive.{num, den, den_pos}
use Rattle.definitions.specs.Beats.{f64, beat, whole, last_row, row_to_beat}
use Rattle.beats.specs.Places.{Inside}
use Rattle.beats.specs.Upto.{Upto}
use Rattle.beats.proofs.Numbers.{cmp-lt, cmp-eq, cmp-gt}
use Rattle.beats.proofs.Values.{rescale, add_at, of-whole, exact, order}
use Rattle.beats.proofs.Upto.{weaken, upto-number, upto-whole, upto-mul, upto-div, upto_add}

-- ---- the beat times 48 is at most 2 ^ 38, and the whole number at most 2 ^ 39
pub scaled-upto : (m r n : ℕ) → Inside m r n → Upto (mul binary64 (beat m r n) (f64 48)) (2 ^ 38)
unfolding beat
scaled-upto m r n i =
    let R : r < n = i.row in
    let N : n < 2 ^ 22 = i.rows in
    let M : m ≤ 2 ^ 23 = i.measure in
    let four = upto-whole binary64 4 (lit≤ tt) in
    let um = weaken (f64 m) m (2 ^ 23) M (upto-whole binary64 m (le_trans M (lit≤ tt))) in
    let ur = weaken (f64 r) r (2 ^ 22) (omega arith) (upto-whole binary64 r (le_trans {m = 2 ^ 22} (omega arith) (lit≤ tt))) in
    let m4 = upto-mul binary64 (f64 m) (f64 4) (2 ^ 23) 4 (lit< tt) um four in
    let r4 = upto-mul binary64 (f64 4) (f64 r) 4 (2 ^ 22) (lit< tt) four ur in
    let q = upto-div binary64 (mul binary64 (f64 4) (f64 r)) n (2 * (4 * 2 ^ 22) + 1) (omega arith) (le_trans (le_of_lt N) (lit≤ tt)) (lit< tt) r4 in
    let b = upto_add binary64 (mul binary64 (f64 m) (f64 4)) (div binary64 (mul binary64 (f64 4) (f64 r)) (f64 n))
    (2 * (2 ^ 23 * 4) + 1) (2 * (2 * (4 * 2 ^ 22) + 1) + 1) (lit< tt) m4 q in
    weaken _ _ (2 ^ 38) (lit≤ tt) (upto-mul binary64 _ (f64 48) _ 48 (lit< tt) b (upto-whole binary64 48 (lit≤ tt)))

pub quotient-lt : (x : Float) → Upto x (2 ^ 38) → num x / den x < 2 ^ 39
quotient-lt x u = (div-lt_iff_lt-mul (den_pos x)).1 (lt_of_le_of_lt u.most (mul-lt-mul_of_pos_right (lit< tt) (den_pos x)))

pub whole-most : (x : Float) → Upto x (2 ^ 38) → whole x ≤ 2 ^ 39
unfolding whole
whole-most x u = le_trans (nearest-le (num x / den x) (compare (num x % den x * 2) (den x))) (quotient-lt x u)

pub row-most : (m r n : ℕ) → Inside m r n → last_row m r n ≤ 2 ^ 39
unfolding last_row
row-most m r n i = whole-most (mul binary64 (beat m r n) (f64 48)) (scaled-upto m r n i)

pub beat-number : (k : ℕ) → k ≤ 2 ^ 39 → T (not (is_nan (row_to_beat k)))
unfolding row_to_beat
beat-number k h =
    let u = weaken (f64 k) k (2 ^ 39) h (upto-whole binary64 k (le_trans h (lit≤ tt))) in
    upto-number (div binary64 (f64 k) (f64 48)) (2 * 2 ^ 39 + 1) (upto-div binary64 (f64 k) 48 (2 ^ 39) (lit< tt) (lit≤ tt) (lit< tt) u)

-- ---- w and a half
pub half-value : (w : ℕ) → w < 2 ^ 39 → HasValue (add binary64 (f64 w) (fin false 1 (negsuc 0))) false (w * 2 + 1) 2
half-value w h =
    let W : HasValue (f64 w) false (w * 2) 2 = rescale (f64 w) false w 1 (w * 2) 2 (lit< tt) (sym (mul-one (w * 2))) (of-whole binary64 w (le_trans (le_of_lt h) (lit≤ tt))) in
    subst (λ (z : Float). HasValue z false (w * 2 + 1) 2) (sym (add_at binary64 (f64 w) (fin false 1 (negsuc 0)) (w * 2) 1 2 (lit< tt) W (refl, refl)))
    (subst (λ (z : ℕ). HasValue (round binary64 false z 2) false z 2) (mul-one (w * 2 + 1))
    (exact binary64 (w * 2 + 1) 0 1 1073 refl (small w h) (lt_of_lt_of_le (mul-lt-mul_of_pos_right (small w h) (pow_pos 1073)) (lit≤ tt))))
  where
    small : (w : ℕ) → w < 2 ^ 39 → w * 2 + 1 < 2 ^ 53
    small w h = omega arith

-- ---- the three cases: x is w and a rest, h is w and a half
module _ (x : Float) (v : HasValue x false (num x) (den x)) (w : ℕ) (e : w ≡ num x / den x) (h : Float) (k : HasValue h false (w * 2 + 1) 2) where
  abbrev rest : ℕ
  rest = num x % den x

  cases : (o : Ordering) → compare (rest * 2) (den x) ≡ o → nearest w o ≡ whole x
  unfolding whole
  cases o p = sym (ap₂ nearest (sym e) p)

  again : w * den x + rest ≡ num x
  again = ap (λ (z : ℕ). z * den x + rest) e ∙ div-add-mod' (num x) (den x)

  expand : (w * 2 + 1) * den x ≡ w * den x * 2 + den x
  expand = add-mul (w * 2) 1 (den x) ∙ ap₂ ◌+◌ (mul_right_comm w 2 (den x)) (one-mul (den x))

  under : (T (lt x h) → num x * 2 < (w * 2 + 1) * den x) × (T (not (lt x h)) → (w * 2 + 1) * den x ≤ num x * 2)
  under = order x h (num x) (den x) (w * 2 + 1) 2 (den_pos x) (lit< tt) v k

  over : (T (lt h x) → (w * 2 + 1) * den x < num x * 2) × (T (not (lt h x)) → num x * 2 ≤ (w * 2 + 1) * den x)
  over = order h x (w * 2 + 1) 2 (num x) (den x) (lit< tt) (den_pos x) k v

  pub down-case : T (lt x h) → w ≡ whole x
  down-case t = cases Ordering.lt (cmp-lt (rest * 2) (den x) (less (num x) (den x) (w * den x) ((w * 2 + 1) * den x) rest again expand (under.0 t)))
    where
      less : (N D q e k : ℕ) → q + k ≡ N → e ≡ q * 2 + D → N * 2 < e → k * 2 < D
      less N D q e k a b h = omega arith

  pub up-case : T (lt h x) → suc w ≡ whole x
  up-case t = cases Ordering.gt (cmp-gt (rest * 2) (den x) (more (num x) (den x) (w * den x) ((w * 2 + 1) * den x) rest again expand (over.0 t)))
    where
      more : (N D q e k : ℕ) → q + k ≡ N → e ≡ q * 2 + D → e < N * 2 → D < k * 2
      more N D q e k a b h = omega arith

  pub tie-case : T (not (lt x h)) → T (not (lt h x)) → w + w % 2 ≡ whole x
  tie-case s t =
      cases Ordering.eq
      (cmp-eq (rest * 2) (den x) (same (num x) (den x) (w * den x) ((w * 2 + 1) * den x) rest again expand (under.1 s) (over.1 t)))
    where
      same : (N D q e k : ℕ) → q + k ≡ N → e ≡ q * 2 + D → e ≤ N * 2 → N * 2 ≤ e → k * 2 ≡ D
      same N D q e k a b h g = omega arith
