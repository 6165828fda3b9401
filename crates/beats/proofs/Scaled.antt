-- Row and row count taken the same number of times give the same last beat: the quotient 4 × r / n is rounded once, and is the same fraction.
use Rattle.std.proofs.Common.{◌≡◌, ℕ, ◌*◌, ◌^◌, ◌<◌, ◌≤◌, false, sym, ap, ◌∙◌, ap₂, le_trans, le_of_eq, le_of_lt, mul-le-mul_right, mul_assoc, mul-le-mul_left, mul-pos, one-mul, mul-one, mul_left_comm, arith, lit<, lit≤}
use lib.Ieee.{binary64, of_int, round, mul, div, add}
use lib.Ieee.Scale.{round_same}
use Rattle.definitions.specs.Sizes.{row_count_bound}
use Rattle.definitions.specs.Beats.{f64, beat, whole, last_row}
use Rattle.beats.proofs.Values.{mul_at, div-at, of-whole}

-- 4 × r / n is the fraction, rounded
quarter : (r n : ℕ) → 0 < n → r ≤ row_count_bound → n ≤ row_count_bound → div binary64 (mul binary64 (f64 4) (f64 r)) (f64 n) ≡ round binary64 false (4 * r) n
unfolding of_int
quarter r n P R N =
    let big : 4 * r ≤ 2 ^ 53 = omega arith in
    let product : mul binary64 (f64 4) (f64 r) ≡ f64 (4 * r) =
    mul_at binary64 (f64 4) (f64 r) 4 1 r 1 (lit< tt) (lit< tt) (of-whole binary64 4 (lit≤ tt)) (of-whole binary64 r (le_trans R (lit≤ tt))) in
    ap (λ x. div binary64 x (f64 n)) product
    ∙ div-at binary64 (f64 (4 * r)) (f64 n) (4 * r) 1 n 1 (lit< tt) (lit< tt) P (of-whole binary64 (4 * r) big) (of-whole binary64 n (le_trans N (lit≤ tt)))
    ∙ ap₂ (round binary64 false) (mul-one (4 * r)) (one-mul n)

pub last-scaled : (m k r n : ℕ) → 0 < k → r < n → k * n ≤ row_count_bound → last_row m (k * r) (k * n) ≡ last_row m r n
unfolding last_row beat
last-scaled m k r n K R N =
    let below : k * r ≤ k * n = mul-le-mul_left k (le_of_lt R) in
    let once : n ≤ k * n = le_trans (le_of_eq (sym (one-mul n))) (mul-le-mul_right n K) in
    let some : 0 < n = omega arith in
    let n-few : n ≤ row_count_bound = omega arith in
    let r-few : r ≤ row_count_bound = omega arith in
    let kr-few : k * r ≤ row_count_bound = omega arith in
    ap (λ q. whole (mul binary64 (add binary64 (mul binary64 (f64 m) (f64 4)) q) (f64 48)))
    (quarter (k * r) (k * n) (mul-pos K some) kr-few N
    ∙ round_same binary64 false (4 * (k * r)) (k * n) (4 * r) n (mul-pos K some) some (same k r n)
    ∙ sym (quarter r n some r-few n-few))
  where
    same : (k r n : ℕ) → 4 * (k * r) * n ≡ 4 * r * (k * n)
    same k r n = simp (mul_assoc, mul_left_comm)
