-- The stride search: what the loops over strides and rows have found.
use mathlib.Core.Path.{◌≡◌, refl, ap, sym, ◌∙◌}
use mathlib.Core.Bool.{Bool, true, false, ◌&&◌, ◌||◌, true≢false}
use mathlib.Core.List.{List, [], ◌∷◌}
use Prim.Native.Nat.{ℕ, zero, suc, ◌+◌, ◌-◌, ◌*◌, ◌^◌, ◌%◌, ◌/◌, ◌≤◌, ◌<◌}
use native.Mathlib.Nat.{mod-one, mul-mod_right, mul-pos, zero-add, mul-add, mul_assoc, mul_comm, one-mul, pow-succ', pow-le-pow_right, lt_of_mul-lt-mul_left, mul-div_cancel', dvd-mul_right, mod-eq-zero_of_dvd, dvd_of_mod-eq-zero}
use native.Mathlib.Numerals.{add-one}
use native.Mathlib.Omega.{arith}
use borrow.Author.Tests.{eqb-true, eqb-false, eq-eqb, leb-true, leb-false}
use lib.Dec.{eqb, leb}
use lib.ListN.{length, get_or}
use Rattle.definitions.specs.Lines.{Row}
use Rattle.definitions.specs.Reduction.{all_zero, multiple, off_zero, allows, stride}
use Rattle.definitions.proofs.Bools.{and_left, and_right}
use Rattle.definitions.proofs.Reduction.{IsStride, stride-is}
use Rattle.reduction.proofs.Powers.{odd-multiple, power_pos}

-- every row off the multiples of s is all zero, row by row
abbrev pub Off : ℕ → List Row → Type 0
Off s rs = (k : ℕ) → k < length rs → multiple s k ≡ false → all_zero (get_or rs k []) ≡ true

-- the rows after the first, numbered from one more
tail-places : (s i : ℕ) (r : Row) (rs : List Row)
    → ((k : ℕ) → k < length (r ∷ rs) → multiple s (i + k) ≡ false → all_zero (get_or (r ∷ rs) k []) ≡ true)
    → (k : ℕ) → k < length rs → multiple s (suc i + k) ≡ false → all_zero (get_or rs k []) ≡ true
tail-places s i r rs h k l m = h (suc k) (omega arith) (ap (multiple s) place ∙ m)
  where
    place : i + suc k ≡ suc i + k
    place = omega arith

off_at : (s i : ℕ) (rs : List Row) → off_zero s i rs ≡ true
    → (k : ℕ) → k < length rs → multiple s (i + k) ≡ false → all_zero (get_or rs k []) ≡ true
off_at s i [] h k l m = absurd (omega arith)
off_at s i (r ∷ rs) h zero l m = here (multiple s i) (ap (multiple s) place ∙ m) (and_left (multiple s i || all_zero r) (off_zero s (suc i) rs) h)
  where
    place : i ≡ i + 0
    place = omega arith

    here : (t : Bool) → t ≡ false → (t || all_zero r) ≡ true → all_zero r ≡ true
    here true e z = absurd (true≢false e)
    here false e z = z
off_at s i (r ∷ rs) h (suc k) l m = off_at s (suc i) rs (and_right (multiple s i || all_zero r) _ h) k (omega arith) (ap (multiple s) place ∙ m)
  where
    place : suc i + k ≡ i + suc k
    place = omega arith

off-from : (s i : ℕ) (rs : List Row) → ((k : ℕ) → k < length rs → multiple s (i + k) ≡ false → all_zero (get_or rs k []) ≡ true)
    → off_zero s i rs ≡ true
off-from s i [] h = refl
off-from s i (r ∷ rs) h = both (multiple s i) (λ m. h 0 (omega arith) (ap (multiple s) place ∙ m)) (off-from s (suc i) rs (tail-places s i r rs h))
  where
    place : i + 0 ≡ i
    place = omega arith

    both : (t : Bool) → (t ≡ false → all_zero r ≡ true) → off_zero s (suc i) rs ≡ true → ((t || all_zero r) && off_zero s (suc i) rs) ≡ true
    both true z q = q
    both false z q = rw (z refl) q

-- a power of two that the rows allow, and no greater one, is the stride
greatest-is : (rs : List Row) (k : ℕ) → 0 < length rs → allows rs (2 ^ k) ≡ true
    → ((e : ℕ) → allows rs (2 ^ (k + suc e)) ≡ true → ⊥) → 2 ^ k ≡ stride rs
greatest-is [] k p a g = absurd (omega arith)
greatest-is (r ∷ rs) k p a g = go (leb is.power.0 k) refl
  where
    is : IsStride (r ∷ rs) (stride (r ∷ rs))
    is = stride-is r rs

    go : (t : Bool) → leb is.power.0 k ≡ t → 2 ^ k ≡ stride (r ∷ rs)
    go true h =
        let low : 2 ^ is.power.0 ≤ 2 ^ k = pow-le-pow_right (omega arith) (leb-true is.power.0 k h) in
        omega (arith, is.greatest k a, is.power.1)
    go false h =
        let above : k < is.power.0 = leb-false is.power.0 k h in
        let more : is.power.0 ≡ k + suc (is.power.0 - suc k) = omega arith in
        absurd (g (is.power.0 - suc k) (ap (λ (e : ℕ). allows (r ∷ rs) (2 ^ e)) (sym more) ∙ ap (allows (r ∷ rs)) (sym is.power.1) ∙ is.allowed))

-- The stride found so far: a power of two, with `left` multiples among the n rows, that the rows allow.
pub record Found (rs : List Row) (n shift step left : ℕ) : Type 0 where
  pub size : length rs ≡ n
  pub power : step ≡ 2 ^ shift
  pub count : n ≡ step * left
  pub some : 0 < left
  pub off : Off step rs

-- Odd multiples of the stride up to `row` are all zero: those that the next stride would drop.
pub record Looked (rs : List Row) (step row : ℕ) : Type 0 where
  pub turn : ℕ
  pub place : row ≡ step * (2 * turn + 1)
  pub zeros : (j : ℕ) → j < turn → all_zero (get_or rs (step * (2 * j + 1)) []) ≡ true

pub found-start : (rs : List Row) (n : ℕ) → length rs ≡ n → 0 < n → Found rs n 0 1 n
found-start rs n e p =
    record {
      size = e;
      power = refl;
      count = sym (one-mul n);
      some = p;
      off = λ k l m. absurd (true≢false (sym (eq-eqb (k % 1) 0 (mod-one k)) ∙ m));
    }

pub looked-step : {rs : List Row} {step row : ℕ} → Looked rs step row → all_zero (get_or rs row []) ≡ true → Looked rs step (row + 2 * step)
looked-step {rs} {step} {row} h z =
    record {
      turn = suc h.turn;
      place = next;
      zeros = λ j l. go j (leb h.turn j) refl l;
    }
  where
    next : row + 2 * step ≡ step * (2 * suc h.turn + 1)
    next =
        let more : 2 * suc h.turn + 1 ≡ 2 * h.turn + 1 + 2 = omega arith in
        omega (arith, h.place, ap (λ (m : ℕ). step * m) more ∙ mul-add step (2 * h.turn + 1) 2)

    go : (j : ℕ) (t : Bool) → leb h.turn j ≡ t → j < suc h.turn → all_zero (get_or rs (step * (2 * j + 1)) []) ≡ true
    go j true q l =
        let same : j ≡ h.turn = omega (arith, leb-true h.turn j q) in
        ap (λ (m : ℕ). all_zero (get_or rs (step * (2 * m + 1)) [])) same ∙ ap (λ (m : ℕ). all_zero (get_or rs m [])) (sym h.place) ∙ z
    go j false q l = h.zeros j (leb-false h.turn j q)

-- All odd multiples looked at: the next stride is found.
pub found-step : {rs : List Row} {n shift step left row : ℕ} → Found rs n shift step left → left % 2 ≡ 0 → Looked rs step row → n ≤ row
    → Found rs n (shift + 1) (2 * step) (left / 2)
found-step {rs} {n} {shift} {step} {left} {row} f even h past =
    record {
      size = f.size;
      power = rw (add-one, pow-succ' 2 shift) (ap (λ (m : ℕ). 2 * m) f.power);
      count = f.count ∙ doubled left (left / 2) (omega arith);
      some = omega (arith, f.some);
      off = λ k l m. by-step k l m (multiple step k) refl;
    }
  where
    doubled : (a b : ℕ) → a ≡ 2 * b → step * a ≡ 2 * step * b
    doubled a b e = ap (λ (m : ℕ). step * m) e ∙ sym (mul_assoc step 2 b) ∙ ap (λ (m : ℕ). m * b) (mul_comm step 2)

    by-half : (k q : ℕ) → k < length rs → multiple (2 * step) k ≡ false → k ≡ step * q → (t : Bool) → eqb (q % 2) 0 ≡ t → all_zero (get_or rs k []) ≡ true
    by-half k q l m e true p =
        let two : q ≡ 2 * (q / 2) = omega (arith, eqb-true (q % 2) 0 p) in
        let place : k ≡ 2 * step * (q / 2) = e ∙ doubled q (q / 2) two in
        absurd (true≢false (sym (eq-eqb (k % (2 * step)) 0 (rw place (mul-mod_right (2 * step) (q / 2)))) ∙ m))
    by-half k q l m e false p =
        let two : q ≡ 2 * (q / 2) + 1 = omega (arith, eqb-false (q % 2) 0 p) in
        let place : k ≡ step * (2 * (q / 2) + 1) = e ∙ ap (λ (m : ℕ). step * m) two in
        let before : step * (2 * (q / 2) + 1) < step * (2 * h.turn + 1) = omega (arith, f.size, h.place) in
        ap (λ (m : ℕ). all_zero (get_or rs m [])) place ∙ h.zeros (q / 2) (omega (arith, lt_of_mul-lt-mul_left step before))

    by-step : (k : ℕ) → k < length rs → multiple (2 * step) k ≡ false → (t : Bool) → multiple step k ≡ t → all_zero (get_or rs k []) ≡ true
    by-step k l m true p =
        by-half k (k / step) l m (sym (mul-div_cancel' step (dvd_of_mod-eq-zero step (eqb-true (k % step) 0 p)))) (eqb (k / step % 2) 0) refl
    by-step k l m false p = f.off k l p

allowed : {rs : List Row} {n shift step left : ℕ} → Found rs n shift step left → allows rs (2 ^ shift) ≡ true
allowed {rs} {n} {shift} {step} {left} f = rw (divides, off-from (2 ^ shift) 0 rs places)
  where
    divides : multiple (2 ^ shift) (length rs) ≡ true
    divides =
        eq-eqb (length rs % 2 ^ shift) 0
        (rw (f.size, f.count, f.power) (mod-eq-zero_of_dvd (2 ^ shift) (dvd-mul_right (2 ^ shift) left)))

    places : (k : ℕ) → k < length rs → multiple (2 ^ shift) (0 + k) ≡ false → all_zero (get_or rs k []) ≡ true
    places k l m = f.off k l (ap (λ (s : ℕ). multiple s k) f.power ∙ ap (multiple (2 ^ shift)) (sym (zero-add k)) ∙ m)

-- An odd number of multiples: no greater power of two divides the row count.
pub found-odd : {rs : List Row} {n shift step left : ℕ} → Found rs n shift step left → (left % 2 ≡ 0 → ⊥) → 2 ^ shift ≡ stride rs
found-odd {rs} {n} {shift} {step} {left} f odd = greatest-is rs shift (omega (arith, f.size, some)) (allowed f) none
  where
    some : 0 < n
    some = rw (f.count, f.power) (mul-pos (power_pos shift) f.some)

    none : (e : ℕ) → allows rs (2 ^ (shift + suc e)) ≡ true → ⊥
    none e a =
        true≢false
        (sym (and_left (multiple (2 ^ (shift + suc e)) (length rs)) _ a)
        ∙ ap (multiple (2 ^ (shift + suc e))) (f.size ∙ f.count ∙ ap (λ (m : ℕ). m * left) f.power)
        ∙ odd-multiple shift e left odd)

-- A row that is not all zero among those looked at: no greater power of two has every row off its multiples all zero.
pub found-stop : {rs : List Row} {n shift step left row : ℕ} → Found rs n shift step left → Looked rs step row → row < n
    → all_zero (get_or rs row []) ≡ false → 2 ^ shift ≡ stride rs
found-stop {rs} {n} {shift} {step} {left} {row} f h l z = greatest-is rs shift (omega (arith, f.size)) (allowed f) none
  where
    none : (e : ℕ) → allows rs (2 ^ (shift + suc e)) ≡ true → ⊥
    none e a =
        let off : multiple (2 ^ (shift + suc e)) (0 + row) ≡ false =
        ap (multiple (2 ^ (shift + suc e))) (zero-add row ∙ h.place ∙ ap (λ (m : ℕ). m * (2 * h.turn + 1)) f.power)
        ∙ odd-multiple shift e (2 * h.turn + 1) (λ q. omega arith) in
        true≢false
        (sym (off_at (2 ^ (shift + suc e)) 0 rs (and_right (multiple (2 ^ (shift + suc e)) (length rs)) _ a) row (omega (arith, f.size)) off) ∙ z)
