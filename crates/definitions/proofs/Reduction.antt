-- The stride is the largest power of two that the rows allow; and minimising by the stride is halving as long as it goes.
use mathlib.Core.Path.{◌≡◌, refl, ap, sym, ◌∙◌}
use mathlib.Core.Logic.{◌⊎◌, inl, inr, ⊎_elim}
use mathlib.Core.Bool.{Bool, true, false, cond, ◌&&◌, ◌||◌, true≢false}
use mathlib.Core.List.{List, [], ◌∷◌, ◌++◌}
use Prim.Native.Nat.{ℕ, zero, suc, ◌*◌, ◌^◌, ◌%◌, ◌≤◌, ◌<◌}
use native.Mathlib.Nat.{
  pow-succ',
  mod-one,
  dvd_trans,
  dvd-mul_right,
  mul-dvd-mul_left,
  dvd_of_mul-dvd-mul_left,
  mod-eq-zero_of_dvd,
  dvd_of_mod-eq-zero,
  le_of_dvd,
  pow-le-pow_right,
}
use native.Mathlib.Omega.{arith}
use borrow.Author.Tests.{eqb-true, eqb-false, eq-eqb, ne_eqb, leb-true, leb-false}
use lib.Dec.{eqb, leb}
use lib.ListN.{length}
use Rattle.definitions.specs.Lists.{only_if}
use Rattle.definitions.specs.Lines.{Row}
use Rattle.definitions.specs.Reduction.{all_zero, multiple, off_zero, at_multiples, allows, largest, stride, reduce}
use Rattle.definitions.specs.Halving.{evens, halvable, halved, ReduceHalved}
use Rattle.definitions.proofs.Bools.{and_left, and-false}

-- Stride 1 is allowed, and keeps every row.
one-multiple : (i : ℕ) → multiple 1 i ≡ true
one-multiple i = rw mod-one

one-off : (i : ℕ) (rs : List Row) → off_zero 1 i rs ≡ true
one-off i [] = refl
one-off i (r ∷ rs) = rw (one-multiple i) (one-off (suc i) rs)

one-allowed : (rs : List Row) → allows rs 1 ≡ true
one-allowed rs = rw (one-multiple (length rs)) (one-off 0 rs)

one-all : (i : ℕ) (rs : List Row) → at_multiples 1 i rs ≡ rs
one-all i [] = refl
one-all i (r ∷ rs) = rw (one-multiple i) (ap (λ l. r ∷ l) (one-all (suc i) rs))

-- What the stride is.
pub record IsStride (rs : List Row) (s : ℕ) : Type 0 where
  pub power : (e : ℕ) × (s ≡ 2 ^ e)
  pub allowed : allows rs s ≡ true
  pub greatest : (e : ℕ) → allows rs (2 ^ e) ≡ true → 2 ^ e ≤ s

largest-power : (k : ℕ) (rs : List Row) → (e : ℕ) × (largest k rs ≡ 2 ^ e)
largest-power zero rs = (0, refl)
largest-power (suc k) rs = go (allows rs (2 ^ suc k)) (largest-power k rs)
  where
    go : (t : Bool) → (e : ℕ) × (largest k rs ≡ 2 ^ e) → (e : ℕ) × (cond t (2 ^ suc k) (largest k rs) ≡ 2 ^ e)
    go true h = (suc k, refl)
    go false h = h

largest-allowed : (k : ℕ) (rs : List Row) → allows rs (largest k rs) ≡ true
largest-allowed zero rs = one-allowed rs
largest-allowed (suc k) rs = go (allows rs (2 ^ suc k)) refl (largest-allowed k rs)
  where
    go : (t : Bool) → allows rs (2 ^ suc k) ≡ t → allows rs (largest k rs) ≡ true → allows rs (cond t (2 ^ suc k) (largest k rs)) ≡ true
    go true e h = e
    go false e h = h

largest-greatest : (k : ℕ) (rs : List Row) (e : ℕ) → e ≤ k → allows rs (2 ^ e) ≡ true → 2 ^ e ≤ largest k rs
largest-greatest zero rs zero l h = omega arith
largest-greatest zero rs (suc e) l h = absurd (omega arith)
largest-greatest (suc k) rs e l h = go (allows rs (2 ^ suc k)) refl (λ l. largest-greatest k rs e l h)
  where
    go : (t : Bool) → allows rs (2 ^ suc k) ≡ t → (e ≤ k → 2 ^ e ≤ largest k rs) → 2 ^ e ≤ cond t (2 ^ suc k) (largest k rs)
    go true p ih = pow-le-pow_right (omega arith) l
    go false p ih = ih (low (leb e k) refl)
      where
        low : (t : Bool) → leb e k ≡ t → e ≤ k
        low true q = leb-true e k q
        low false q =
            let same : e ≡ suc k = omega (arith, leb-false e k q) in
            absurd (true≢false (sym h ∙ ap (λ n. allows rs (2 ^ n)) same ∙ p))

pub below_power : (e : ℕ) → e < 2 ^ e
below_power zero = omega arith
below_power (suc e) = rw (pow-succ' 2 e) (omega (arith, below_power e))

pub stride-is : (r : Row) (rs : List Row) → IsStride (r ∷ rs) (stride (r ∷ rs))
unfolding stride
stride-is r rs =
    record {
      power = largest-power (length (r ∷ rs)) (r ∷ rs);
      allowed = largest-allowed (length (r ∷ rs)) (r ∷ rs);
      greatest =
          λ e h.
          let d : 2 ^ e ≤ length (r ∷ rs) =
          le_of_dvd (omega arith) (dvd_of_mod-eq-zero (2 ^ e) (eqb-true _ 0 (and_left _ (off_zero (2 ^ e) 0 (r ∷ rs)) h))) in
          largest-greatest (length (r ∷ rs)) (r ∷ rs) e (omega (arith, below_power e)) h;
    }

pub even-multiple : (s i n : ℕ) → n ≡ 2 * i → multiple (2 * s) n ≡ multiple s i
even-multiple s i n e = ap (multiple (2 * s)) e ∙ go (eqb (i % s) 0) refl
  where
    go : (t : Bool) → eqb (i % s) 0 ≡ t → multiple (2 * s) (2 * i) ≡ t
    go true p = eq-eqb (2 * i % (2 * s)) 0 (mod-eq-zero_of_dvd (2 * s) (mul-dvd-mul_left s 2 (dvd_of_mod-eq-zero s (eqb-true (i % s) 0 p))))
    go false p =
        ne_eqb (2 * i % (2 * s)) 0
        (λ q. eqb-false (i % s) 0 p (mod-eq-zero_of_dvd s (dvd_of_mul-dvd-mul_left {k = 2} s (omega arith) (dvd_of_mod-eq-zero (2 * s) q))))

pub odd-multiple : (s i n : ℕ) → n ≡ suc (2 * i) → multiple (2 * s) n ≡ false
odd-multiple s i n e =
    ne_eqb (n % (2 * s)) 0
    (λ q. let h : n % 2 ≡ 0 = mod-eq-zero_of_dvd 2 (dvd_trans 2 (dvd-mul_right 2 s) (dvd_of_mod-eq-zero (2 * s) q)) in omega arith)

at-double : (s n i : ℕ) → n ≡ 2 * i → (rs : List Row) → at_multiples (2 * s) n rs ≡ at_multiples s i (evens rs)
at-double s n i e [] = refl
at-double s n i e (r ∷ []) = rw (even-multiple s i n e)
at-double s n i e (r ∷ r' ∷ rs) =
    rw (even-multiple s i n e, odd-multiple s i (suc n) (omega arith))
    (ap (λ l. only_if (multiple s i) (r ∷ []) ++ l) (at-double s (suc (suc n)) (suc i) (omega arith) rs))

regroup : (a b c d : Bool) → (a && (b && (c && d))) ≡ (b && c && (a && d))
regroup true b c d = go b
  where
    go : (b : Bool) → (b && (c && d)) ≡ (b && c && d)
    go true = refl
    go false = refl
regroup false true true d = refl
regroup false true false d = refl
regroup false false c d = refl

off-double : (s n i : ℕ) → n ≡ 2 * i → (k : ℕ) (rs : List Row) → length rs ≡ 2 * k
    → off_zero (2 * s) n rs ≡ (halvable rs && off_zero s i (evens rs))
off-double s n i e k [] l = refl
off-double s n i e k (r ∷ []) l = absurd (omega arith)
off-double s n i e zero (r ∷ r' ∷ rs) l = absurd (omega arith)
off-double s n i e (suc k) (r ∷ r' ∷ rs) l =
    rw (even-multiple s i n e, odd-multiple s i (suc n) (omega arith), off-double s (suc (suc n)) (suc i) (omega arith) k rs (omega arith))
    (regroup (multiple s i || all_zero r) (all_zero r') (halvable rs) (off_zero s (suc i) (evens rs)))

evens-length : (k : ℕ) (rs : List Row) → length rs ≡ 2 * k → length (evens rs) ≡ k
evens-length k [] l = omega arith
evens-length k (r ∷ []) l = absurd (omega arith)
evens-length zero (r ∷ r' ∷ rs) l = absurd (omega arith)
evens-length (suc k) (r ∷ r' ∷ rs) l = ap suc (evens-length k rs (omega arith))

odd-length : (k : ℕ) (rs : List Row) → length rs ≡ suc (2 * k) → halvable rs ≡ false
odd-length k [] l = absurd (omega arith)
odd-length k (r ∷ []) l = refl
odd-length zero (r ∷ r' ∷ rs) l = absurd (omega arith)
odd-length (suc k) (r ∷ r' ∷ rs) l = rw (odd-length k rs (omega arith)) (and-false (all_zero r'))

parity : (n : ℕ) → ((k : ℕ) × (n ≡ 2 * k)) ⊎ ((k : ℕ) × (n ≡ suc (2 * k)))
parity zero = inl (0, refl)
parity (suc n) = ⊎_elim (λ h. let e : n ≡ 2 * h.0 = h.1 in inr (h.0, omega arith)) (λ h. let e : n ≡ suc (2 * h.0) = h.1 in inl (suc h.0, omega arith)) (parity n)

allows-double : (s : ℕ) (rs : List Row) → allows rs (2 * s) ≡ (halvable rs && allows (evens rs) s)
allows-double s rs = ⊎_elim even odd (parity (length rs))
  where
    swap : (a b c : Bool) → (a && (b && c)) ≡ (b && (a && c))
    swap true b c = refl
    swap false true c = refl
    swap false false c = refl

    even : (k : ℕ) × (length rs ≡ 2 * k) → allows rs (2 * s) ≡ (halvable rs && allows (evens rs) s)
    even h =
        rw (even-multiple s h.0 (length rs) h.1, off-double s 0 0 refl h.0 rs h.1, evens-length h.0 rs h.1)
        (swap (multiple s h.0) (halvable rs) (off_zero s 0 (evens rs)))

    odd : (k : ℕ) × (length rs ≡ suc (2 * k)) → allows rs (2 * s) ≡ (halvable rs && allows (evens rs) s)
    odd h = rw (odd-multiple s h.0 (length rs) h.1, odd-length h.0 rs h.1)

largest-double : (k : ℕ) (rs : List Row) → halvable rs ≡ true → largest (suc k) rs ≡ 2 * largest k (evens rs)
largest-double zero rs h = rw (allows-double 1 rs, h, one-allowed (evens rs))
largest-double (suc k) rs h =
    rw (largest-double k rs h, pow-succ' 2 (suc k), allows-double (2 ^ suc k) rs, h)
    (two (allows (evens rs) (2 ^ suc k)) (2 ^ suc k) (largest k (evens rs)))
  where
    two : (t : Bool) (a b : ℕ) → cond t (2 * a) (2 * b) ≡ 2 * cond t a b
    two true a b = refl
    two false a b = refl

largest-one : (k : ℕ) (rs : List Row) → halvable rs ≡ false → largest k rs ≡ 1
largest-one zero rs h = refl
largest-one (suc k) rs h = rw (pow-succ' 2 k, allows-double (2 ^ k) rs, h) (largest-one k rs h)

largest-halved : (k : ℕ) (rs : List Row) → at_multiples (largest k rs) 0 rs ≡ halved k rs
largest-halved zero rs = one-all 0 rs
largest-halved (suc k) rs = go (halvable rs) refl (largest-halved k (evens rs))
  where
    go : (t : Bool) → halvable rs ≡ t → at_multiples (largest k (evens rs)) 0 (evens rs) ≡ halved k (evens rs)
        → at_multiples (largest (suc k) rs) 0 rs ≡ cond t (halved k (evens rs)) rs
    go true h ih = ap (λ s. at_multiples s 0 rs) (largest-double k rs h) ∙ at-double (largest k (evens rs)) 0 0 refl rs ∙ ih
    go false h ih = ap (λ s. at_multiples s 0 rs) (largest-one (suc k) rs h) ∙ one-all 0 rs

-- The two forms are one.
pub reduce-halved : ReduceHalved
unfolding ReduceHalved reduce stride
reduce-halved rs = search (largest-halved (length rs) rs)
