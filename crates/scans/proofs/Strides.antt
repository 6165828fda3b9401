-- The stride by trailing zeros: the exponents that a row's number or the row count allows are those up to the number of its trailing zeros.
use mathlib.Core.Path.{◌≡◌, refl, ap, sym, ◌∙◌}
use mathlib.Core.Bool.{Bool, true, false, ◌&&◌, ◌||◌}
use mathlib.Core.List.{List, [], ◌∷◌, ◌++◌}
use Prim.Native.Nat.{ℕ, zero, suc, ◌+◌, ◌/◌, ◌%◌, ◌^◌, ◌≤◌, ◌<◌, min}
use native.Mathlib.Nat.{pow-succ', mod-one, add-zero, le_antisymm, le_trans, le_of_eq, lt_irrefl, lt_of_le_of_lt, le_of_dvd, dvd_of_mod-eq-zero, pow-le-pow_right}
use native.Mathlib.Decide.{dec_lt}
use lib.Pow.{pow_pos}
use native.Mathlib.Omega.{arith}
use borrow.Author.Tests.{leb-true, leb-false, le-leb, lt-leb}
use lib.Dec.{leb, leb-zero, leb-suc-suc}
use lib.Count.{count_trailing_zeros, under}
use lib.ListN.{length}
use Rattle.definitions.specs.Lists.{only_if}
use Rattle.definitions.specs.Lines.{Row}
use Rattle.definitions.specs.Reduction.{all_zero, multiple, off_zero, at_multiples, allows, stride, reduce}
use Rattle.definitions.proofs.Reduction.{stride-is, even-multiple, odd-multiple}
use Rattle.reduction.proofs.Blocks.{multiples-length}
use Rattle.reduction.proofs.Strides.{stride-divides}
use Rattle.reduction.proofs.RowsAt.{rows-length}
use Rattle.reduction.specs.Rows.{rows_at}

-- 2 ^ k divides n where k is at most the number of n's trailing zeros
pub divides-trailing : (w k n : ℕ) → k ≤ w → multiple (2 ^ k) n ≡ leb k (count_trailing_zeros w n)
unfolding count_trailing_zeros
divides-trailing w zero n h = rw mod-one (sym (leb-zero (count_trailing_zeros w n)))
divides-trailing zero (suc k) n h = absurd (omega arith)
divides-trailing (suc w) (suc k) n h = go (n % 2) refl (divides-trailing w k (n / 2) (omega arith))
  where
    go : (d : ℕ) → n % 2 ≡ d → multiple (2 ^ k) (n / 2) ≡ leb k (count_trailing_zeros w (n / 2)) → multiple (2 ^ suc k) n ≡ leb (suc k) (under d (count_trailing_zeros w (n / 2)))
    go zero e ih =
        rw (pow-succ' 2 k)
        (even-multiple (2 ^ k) (n / 2) n (omega arith) ∙ ih ∙ sym (leb-suc-suc k (count_trailing_zeros w (n / 2))))
    go (suc d) e ih = rw (pow-succ' 2 k) (odd-multiple (2 ^ k) (n / 2) n (omega arith) ∙ sym (lt-leb (suc k) 0 (omega arith)))

leb-min : (k a b : ℕ) → (leb k a && leb k b) ≡ leb k (min a b)
leb-min k a b = go (leb k a) refl (leb k b) refl
  where
    go : (t : Bool) → leb k a ≡ t → (u : Bool) → leb k b ≡ u → (t && u) ≡ leb k (min a b)
    go true p true q = sym (le-leb k (min a b) (omega (arith, leb-true k a p, leb-true k b q)))
    go true p false q = sym (lt-leb k (min a b) (omega (arith, leb-false k b q)))
    go false p u q = sym (lt-leb k (min a b) (omega (arith, leb-false k a p)))

-- one row more
off-snoc : (s i : ℕ) (rs : List Row) (r : Row) → off_zero s i (rs ++ (r ∷ [])) ≡ (off_zero s i rs && (multiple s (i + length rs) || all_zero r))
off-snoc s i [] r = rw add-zero (and-true (multiple s i || all_zero r))
  where
    and-true : (x : Bool) → (x && true) ≡ x
    and-true true = refl
    and-true false = refl
off-snoc s i (x ∷ rs) r =
    ap (λ t. (multiple s i || all_zero x) && t) (off-snoc s (suc i) rs r ∙ ap (λ n. off_zero s (suc i) rs && (multiple s n || all_zero r)) (omega arith))
    ∙ assoc (multiple s i || all_zero x) (off_zero s (suc i) rs) (multiple s (i + suc (length rs)) || all_zero r)
  where
    assoc : (x y z : Bool) → (x && (y && z)) ≡ ((x && y) && z)
    assoc true y z = refl
    assoc false y z = refl

-- a row that is all zero changes nothing, and any other allows what its number allows
pub off-zero-row : (s : ℕ) (rs : List Row) (r : Row) → all_zero r ≡ true → off_zero s 0 (rs ++ (r ∷ [])) ≡ off_zero s 0 rs
off-zero-row s rs r z = off-snoc s 0 rs r ∙ rw z (go (off_zero s 0 rs) (multiple s (0 + length rs)))
  where
    go : (x y : Bool) → (x && (y || true)) ≡ x
    go true true = refl
    go true false = refl
    go false y = refl

pub off-other-row : (k shift : ℕ) (rs : List Row) (r : Row) → k ≤ 64 → all_zero r ≡ false → off_zero (2 ^ k) 0 rs ≡ leb k shift
    → off_zero (2 ^ k) 0 (rs ++ (r ∷ [])) ≡ leb k (min shift (count_trailing_zeros 64 (length rs)))
off-other-row k shift rs r w z e =
    off-snoc (2 ^ k) 0 rs r
    ∙ rw (z, e) (ap (λ t. leb k shift && t) (or-false (multiple (2 ^ k) (0 + length rs)) ∙ ap (multiple (2 ^ k)) {x = 0 + length rs} {y = length rs} (omega arith) ∙ divides-trailing 64 k (length rs) w) ∙ leb-min k shift (count_trailing_zeros 64 (length rs)))
  where
    or-false : (x : Bool) → (x || false) ≡ x
    or-false true = refl
    or-false false = refl

-- the stride of rows that allow the exponents up to e
stride-by : (rs : List Row) (e : ℕ) → 0 < length rs → length rs < 2 ^ 64 → e ≤ 64 → ((k : ℕ) → k ≤ 64 → allows rs (2 ^ k) ≡ leb k e) → stride rs ≡ 2 ^ e
stride-by [] e h b w f = absurd (omega arith)
stride-by (r ∷ rs) e h b w f = go (stride-is r rs).power
  where
    low : 2 ^ e ≤ stride (r ∷ rs)
    low = (stride-is r rs).greatest e (f e w ∙ le-leb e e (omega arith))

    fits : stride (r ∷ rs) ≤ length (r ∷ rs)
    fits = le_of_dvd (omega arith) (dvd_of_mod-eq-zero (stride (r ∷ rs)) (stride-divides (r ∷ rs)))

    go : (d : ℕ) × (stride (r ∷ rs) ≡ 2 ^ d) → stride (r ∷ rs) ≡ 2 ^ e
    go p = p.1 ∙ ap (λ n. 2 ^ n) (le_antisymm d-low e-low)
      where
        d-few : p.0 ≤ 64
        d-few = elim (dec_lt 64 p.0) [
          | yes q ↦
              let over : 64 ≤ p.0 = omega arith in
              let big : 2 ^ 64 ≤ 2 ^ p.0 = pow-le-pow_right (omega arith) over in
              absurd (lt_irrefl _ (lt_of_le_of_lt big (lt_of_le_of_lt (le_trans (le_of_eq (sym p.1)) fits) b)))
          | no q ↦ omega arith
        ]

        d-low : p.0 ≤ e
        d-low = leb-true p.0 e (sym (f p.0 d-few) ∙ ap (allows (r ∷ rs)) (sym p.1) ∙ (stride-is r rs).allowed)

        e-low : e ≤ p.0
        e-low = elim (dec_lt p.0 e) [
          | yes q ↦
              let next : 2 ^ suc p.0 ≤ 2 ^ e = pow-le-pow_right (omega arith) q in
              absurd (omega (arith, rw (pow-succ' 2 p.0) at next, pow_pos p.0, low, p.1))
          | no q ↦ omega arith
        ]

-- The stride of some rows, but for the row count the exponents up to `shift` allowed.
pub stride-shift : (rs : List Row) (shift : ℕ) → 0 < length rs → length rs < 2 ^ 64 → shift ≤ 64
    → ((k : ℕ) → k ≤ 64 → off_zero (2 ^ k) 0 rs ≡ leb k shift) → stride rs ≡ 2 ^ min shift (count_trailing_zeros 64 (length rs))
stride-shift rs shift h b w f =
    stride-by rs (min shift (count_trailing_zeros 64 (length rs))) h b (omega arith)
    (λ k l. rw (divides-trailing 64 k (length rs) l, f k l) (leb-min k (count_trailing_zeros 64 (length rs)) shift ∙ ap (leb k) {x = min (count_trailing_zeros 64 (length rs)) shift} {y = min shift (count_trailing_zeros 64 (length rs))} (omega arith)))

-- how many rows stay
multiples-same : (s i : ℕ) (rs ss : List Row) → length rs ≡ length ss → length (at_multiples s i rs) ≡ length (at_multiples s i ss)
multiples-same s i [] [] e = refl
multiples-same s i [] (y ∷ ss) e = absurd (omega arith)
multiples-same s i (x ∷ rs) [] e = absurd (omega arith)
multiples-same s i (x ∷ rs) (y ∷ ss) e = go (multiple s i) (multiples-same s (suc i) rs ss (omega arith))
  where
    go : (t : Bool) → length (at_multiples s (suc i) rs) ≡ length (at_multiples s (suc i) ss)
        → length (only_if t (x ∷ []) ++ at_multiples s (suc i) rs) ≡ length (only_if t (y ∷ []) ++ at_multiples s (suc i) ss)
    go true h = ap suc h
    go false h = h

pub reduce-length : (rs : List Row) → length (reduce rs) ≡ length rs / stride rs
unfolding reduce stride
reduce-length [] = refl
reduce-length (r ∷ rs) =
    multiples-same (stride (r ∷ rs)) 0 (r ∷ rs) (rows_at 0 0 (length (r ∷ rs)) []) (sym (rows-length 0 0 (length (r ∷ rs)) []))
    ∙ multiples-length 0 0 (length (r ∷ rs)) (stride (r ∷ rs)) [] (positive (stride-is r rs).power) (stride-divides (r ∷ rs))
  where
    positive : (e : ℕ) × (stride (r ∷ rs) ≡ 2 ^ e) → 0 < stride (r ∷ rs)
    positive p = rw p.1 (pow_pos p.0)
