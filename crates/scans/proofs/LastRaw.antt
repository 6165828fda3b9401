-- The last beat of raw rows: a row that is all zero is no object row and changes no depth, and the places of the others are those of the minimised
-- rows times the stride.
use mathlib.Core.Path.{◌≡◌, refl, ap, sym, ◌∙◌, subst}
use mathlib.Core.Bool.{Bool, true, false, ◌||◌}
use mathlib.Core.List.{List, [], ◌∷◌, ◌++◌, map}
use Rattle.std.specs.Prelude.{Option, None, Some}
use Prim.Native.Nat.{ℕ, suc, ◌+◌, ◌*◌, ◌/◌, ◌%◌, ◌≤◌, ◌<◌}
use native.Mathlib.Nat.{mul-zero, mul-suc, mul-mod_right, mul-div_cancel', dvd_of_mod-eq-zero, div-add-mod, le_trans, le_of_eq, lt_of_lt_of_le, le_of_mul-le-mul_left, lt_of_mul-lt-mul_left, add-zero}
use native.Mathlib.Omega.{arith}
use borrow.Author.Tests.{eqb-true, eqb-false}
use lib.Pow.{pow_pos}
use lib.ListN.{length}
use Rattle.definitions.specs.Sizes.{row_count_bound}
use Rattle.std.specs.List.{AllZip}
use Rattle.definitions.specs.Lists.{only_if}
use Rattle.definitions.specs.Lines.{Row}
use Rattle.definitions.specs.Measures.{chart}
use Rattle.definitions.specs.Reduction.{all_zero, multiple, off_zero, at_multiples, stride, reduce, minimised}
use Rattle.definitions.specs.Objects.{Depths, after_row, after_rows, object_row, Place, objects_in, objects_from, last_of, last_object, place48, last48}
use Rattle.definitions.specs.Beats.{last_row}
use Rattle.definitions.proofs.Bools.{and_left, and_right}
use Rattle.definitions.proofs.Reduction.{stride-is}
use Rattle.definitions.proofs.Thinned.{Thinned, none as thin-none, keep, leave, reduce-thin}
use Rattle.beats.proofs.Scaled.{last-scaled}
use Rattle.objects.proofs.Zeros.{zero-after, zero-object}
use Rattle.reduction.proofs.Strides.{stride-divides}
use Rattle.scans.proofs.Strides.{reduce-length}

thin-depths : (D : Depths) {s t : List Row} → Thinned s t → after_rows D s ≡ after_rows D t
thin-depths D thin-none = refl
thin-depths D (keep {r = r} p) = thin-depths (after_row D r) p
thin-depths D (leave {r = r} {s = s} z p) = ap (λ E. after_rows E s) (zero-after D r z) ∙ thin-depths D p

-- k times a place
abbrev pub times : ℕ → Place → Place
times k p = record { m = p.m; r = k * p.r; n = k * p.n }

-- i stands at the j-th multiple of k, or between it and the one before
record Between (k i j : ℕ) : Type 0 where
  high : i ≤ k * j
  low : k * j < i + k

at-multiple : (k i j : ℕ) → 0 < k → Between k i j → multiple k i ≡ true → i ≡ k * j
at-multiple k i j p b e =
    let whole : i ≡ k * (i / k) = sym (div-add-mod i k) ∙ ap (λ x. k * (i / k) + x) (eqb-true (i % k) 0 e) ∙ add-zero (k * (i / k)) in
    let up : i / k ≤ j = le_of_mul-le-mul_left (le_trans (le_of_eq (sym whole)) b.high) p in
    let down : j < suc (i / k) = lt_of_mul-lt-mul_left k (lt_of_lt_of_le b.low (le_of_eq (ap (λ x. x + k) whole ∙ sym (mul-suc k (i / k))))) in
    let same : i / k ≡ j = omega arith in
    whole ∙ ap (λ x. k * x) same

between_start : (k : ℕ) → 0 < k → Between k 0 0
between_start k p = record { high = omega arith; low = rw mul-zero (omega arith) }

-- one row further: from a multiple to past it, or on towards the next one
past-multiple : (k i j : ℕ) → 0 < k → i ≡ k * j → Between k (suc i) (suc j)
past-multiple k i j p e = record { high = rw (mul-suc k j) (omega (arith, e)); low = rw (mul-suc k j) (omega (arith, e)) }

to-multiple : (k i j : ℕ) → 0 < k → Between k i j → multiple k i ≡ false → Between k (suc i) j
to-multiple k i j p b e =
    let apart : i ≡ k * j → ⊥ = λ q. eqb-false (i % k) 0 e (ap (λ x. x % k) q ∙ mul-mod_right k j) in
    record { high = omega (arith, b.high, apart); low = omega (arith, b.low) }

raw-in : (D : Depths) (m k i j n : ℕ) (rs : List Row) → 0 < k → Between k i j → off_zero k i rs ≡ true
    → objects_in D m i (k * n) rs ≡ map (times k) (objects_in D m j n (at_multiples k i rs))
raw-in D m k i j n [] p b h = refl
raw-in D m k i j n (r ∷ rs) p b h =
    go (multiple k i) refl (and_left (multiple k i || all_zero r) (off_zero k (suc i) rs) h)
    (λ E f b'. raw-in E m k (suc i) f n rs p b' (and_right (multiple k i || all_zero r) (off_zero k (suc i) rs) h))
  where
    here : (t : Bool) (q : List Place) → i ≡ k * j → only_if t (record { m = m; r = i; n = k * n } ∷ []) ++ map (times k) q ≡ map (times k) (only_if t (record { m = m; r = j; n = n } ∷ []) ++ q)
    here true q e = rw e
    here false q e = refl

    go : (t : Bool) → multiple k i ≡ t → (t || all_zero r) ≡ true
        → ((E : Depths) (f : ℕ) → Between k (suc i) f → objects_in E m (suc i) (k * n) rs ≡ map (times k) (objects_in E m f n (at_multiples k (suc i) rs)))
        → only_if (object_row D r) (record { m = m; r = i; n = k * n } ∷ []) ++ objects_in (after_row D r) m (suc i) (k * n) rs
        ≡ map (times k) (objects_in D m j n (only_if t (r ∷ []) ++ at_multiples k (suc i) rs))
    go true e z ih =
        let at : i ≡ k * j = at-multiple k i j p b e in
        ap (λ l. only_if (object_row D r) (record { m = m; r = i; n = k * n } ∷ []) ++ l) (ih (after_row D r) (suc j) (past-multiple k i j p at))
        ∙ here (object_row D r) (objects_in (after_row D r) m (suc j) n (at_multiples k (suc i) rs)) at
    go false e z ih = rw (zero-object D r z, zero-after D r z) (ih D j (to-multiple k i j p b e))

-- A measure: its raw object rows are the minimised ones, times the stride.
raw-measure : (D : Depths) (m : ℕ) (rs : List Row) → (k : ℕ) × (0 < k) × (length rs ≡ k * length (reduce rs)) × (objects_in D m 0 (length rs) rs ≡ map (times k) (objects_in D m 0 (length (reduce rs)) (reduce rs)))
unfolding reduce
raw-measure D m [] = (1, omega arith, refl, refl)
raw-measure D m (r ∷ rs) =
    let k = stride (r ∷ rs) in
    let p : 0 < k = rw (stride-is r rs).power.1 (pow_pos (stride-is r rs).power.0) in
    let n = length (reduce (r ∷ rs)) in
    let count : length (r ∷ rs) ≡ k * n =
    sym (ap (λ x. k * x) (reduce-length (r ∷ rs)) ∙ mul-div_cancel' k (dvd_of_mod-eq-zero k (stride-divides (r ∷ rs)))) in (
      k,
      p,
      count,
      ap (λ x. objects_in D m 0 x (r ∷ rs)) count
          ∙ raw-in D m k 0 0 n (r ∷ rs) p (between_start k p) (and_right (multiple k (length (r ∷ rs))) (off_zero k 0 (r ∷ rs)) (stride-is r rs).allowed),
    )

-- The places of raw and of minimised rows, one by one.
record Scaled (p q : Place) : Type 0 where
  by : ℕ
  some : 0 < by
  is : p ≡ times by q

scaled-each : (k : ℕ) → 0 < k → (l : List Place) → AllZip Scaled (map (times k) l) l
scaled-each k p [] = tt
scaled-each k p (q ∷ l) = (record { by = k; some = p; is = refl }, scaled-each k p l)

each_append : (s t u v : List Place) → AllZip Scaled s t → AllZip Scaled u v → AllZip Scaled (s ++ u) (t ++ v)
each_append [] [] u v g h = h
each_append [] (q ∷ t) u v g h = absurd g
each_append (p ∷ s) [] u v g h = absurd g
each_append (p ∷ s) (q ∷ t) u v g h = (g.0, each_append s t u v g.1 h)

scaled-all : (D : Depths) (m : ℕ) (ms : List (List Row)) → AllZip Scaled (objects_from D m ms) (objects_from D m (map reduce ms))
scaled-all D m [] = tt
scaled-all D m (x ∷ ms) =
    let w = raw-measure D m x in
    each_append (objects_in D m 0 (length x) x) (objects_in D m 0 (length (reduce x)) (reduce x))
    (objects_from (after_rows D x) (suc m) ms)
    (objects_from (after_rows D (reduce x)) (suc m) (map reduce ms))
    (subst (λ l. AllZip Scaled l (objects_in D m 0 (length (reduce x)) (reduce x))) (sym w.3) (scaled-each w.0 w.1 (objects_in D m 0 (length (reduce x)) (reduce x))))
    (subst (λ E. AllZip Scaled (objects_from (after_rows D x) (suc m) ms) (objects_from E (suc m) (map reduce ms))) (thin-depths D (reduce-thin x)) (scaled-all (after_rows D x) (suc m) ms))

data LastScaled : Option Place → Option Place → Type 0 where
  neither : LastScaled None None
  both : {p q : Place} → Scaled p q → LastScaled (Some p) (Some q)

last-each : (s t : List Place) → AllZip Scaled s t → LastScaled (last_of s) (last_of t)
last-each [] [] h = neither
last-each [] (q ∷ t) h = absurd h
last-each (p ∷ s) [] h = absurd h
last-each (p ∷ []) (q ∷ []) h = both h.0
last-each (p ∷ []) (q ∷ q' ∷ t) h = absurd h.1
last-each (p ∷ p' ∷ s) (q ∷ []) h = absurd h.1
last-each (p ∷ p' ∷ s) (q ∷ q' ∷ t) h = last-each (p' ∷ s) (q' ∷ t) h.1

-- The last beat in 48ths from the last raw object row, which lies in its measure.
pub last-raw : (L : ℕ) (text : List ℕ) (o : Option Place) → o ≡ last_of (objects_from (λ c. 0) 0 (chart L text))
    → ((p : Place) → o ≡ Some p → (p.r < p.n) × (p.n ≤ row_count_bound)) → place48 o ≡ last48 L text
unfolding last48 last_object minimised
last-raw L text o e h = go o h (subst (λ x. LastScaled x (last_of (objects_from (λ c. 0) 0 (map reduce (chart L text))))) (sym e) (last-each _ _ (scaled-all (λ c. 0) 0 (chart L text))))
  where
    go : (o : Option Place) → ((p : Place) → o ≡ Some p → (p.r < p.n) × (p.n ≤ row_count_bound)) → {u : Option Place} → LastScaled o u → place48 o ≡ place48 u
    go None f neither = refl
    go (Some p) f (both {q = q} x) =
        let w = f p refl in
        let inside : q.r < q.n = lt_of_mul-lt-mul_left x.by (subst (λ y. y.r < y.n) x.is w.0) in
        ap (λ y. last_row y.m y.r y.n) x.is ∙ last-scaled q.m x.by q.r q.n x.some inside (subst (λ y. y.n ≤ row_count_bound) x.is w.1)
