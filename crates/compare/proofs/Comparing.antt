-- `same` decides equality, and a test that holds exactly where each place has its number is the comparison.
use mathlib.Core.Path.{◌≡◌, refl, ap, sym, ◌∙◌, subst}
use mathlib.Core.Bool.{Bool, true, false, ◌&&◌}
use mathlib.Core.List.{List, [], ◌∷◌, ◌++◌}
use Prim.Native.Nat.{ℕ, zero, suc, ◌-◌, ◌<◌, ◌≤◌}
use native.Mathlib.Omega.{arith}
use borrow.Author.Tests.{eqb-true, eqb-false, eq-eqb, ne_eqb, lt-leb}
use lib.Dec.{eqb, leb}
use lib.ListN.{length, get_or, replicate, length-append, length-replicate}
use lib.Seq.{ext_get_or}
use Rattle.std.proofs.Common.{IsTrue, EachIndex, ◌↔◌}
use Rattle.definitions.specs.Lists.{padded}
use Rattle.slices.proofs.Zeroed.{zeros-none}
use Rattle.compare.specs.Agreement.{same, same_to, has_answer, same_stored_figures}

-- two tests that hold in the same cases
by-both : (t u : Bool) → (t ≡ true → u ≡ true) → (u ≡ true → t ≡ true) → t ≡ u
by-both true u p q = sym (p refl)
by-both false true p q = q refl
by-both false false p q = refl

both : (t u : Bool) → (t && u) ≡ true → (t ≡ true) × (u ≡ true)
both true u e = (refl, e)
both false u e = let z : ◌≡◌ {A = ℕ} 0 1 = cc in absurd (omega arith)

-- ---- true exactly where the lists are equal

pub same-itself : (xs : List ℕ) → same xs xs ≡ true
same-itself [] = refl
same-itself (x ∷ xs) = rw (eq-eqb x x refl) (same-itself xs)

pub same-equal : (xs ys : List ℕ) → same xs ys ≡ true → xs ≡ ys
same-equal [] [] e = refl
same-equal [] (y ∷ ys) e = let z : ◌≡◌ {A = ℕ} 0 1 = cc in absurd (omega arith)
same-equal (x ∷ xs) [] e = let z : ◌≡◌ {A = ℕ} 0 1 = cc in absurd (omega arith)
same-equal (x ∷ xs) (y ∷ ys) e =
    let l = both (eqb x y) (same xs ys) e in
    cc (eqb-true x y l.0, same-equal xs ys l.1)

-- ---- an answer and zeros after it, place by place

padded-get : (ys : List ℕ) (k i : ℕ) → get_or (ys ++ replicate k 0) i 0 ≡ get_or ys i 0
padded-get [] k i = zeros-none k i
padded-get (y ∷ ys) k zero = refl
padded-get (y ∷ ys) k (suc i) = padded-get ys k i

module _ (xs ys : List ℕ) where
  has-places : has_answer xs ys ≡ true → (k : ℕ) → get_or xs k 0 ≡ get_or ys k 0
  unfolding has_answer
  has-places e k = ap (λ (l : List ℕ). get_or l k 0) (same-equal xs (padded 0 (length xs) ys) e) ∙ padded-get ys (length xs - length ys) k

  places-has : length ys ≤ length xs → ((k : ℕ) → k < length xs → get_or xs k 0 ≡ get_or ys k 0) → has_answer xs ys ≡ true
  unfolding has_answer
  places-has h p =
      let n : length xs ≡ length (padded 0 (length xs) ys) = simp (length-append, length-replicate) (omega arith) in
      let e : xs ≡ padded 0 (length xs) ys = ext_get_or 0 xs (padded 0 (length xs) ys) n (λ k l. p k l ∙ sym (padded-get ys (length xs - length ys) k)) in
      subst (λ (l : List ℕ). same xs l ≡ true) e (same-itself xs)

  -- a test of each place is the comparison
  pub has_by : (t : Bool) → length ys ≤ length xs → IsTrue t ↔ EachIndex xs (λ k. get_or xs k 0 ≡ get_or ys k 0) → t ≡ has_answer xs ys
  has_by t h p = by-both t (has_answer xs ys) (λ e. places-has h (p.0 e)) (λ e. p.1 (λ k l. has-places e k))

  -- an answer that is longer than the slice
  pub has-long : (n : ℕ) → length xs < n → length ys ≡ n → leb n (length xs) ≡ has_answer xs ys
  unfolding has_answer
  has-long n h q =
      lt-leb n (length xs) h
      ∙ by-both false (has_answer xs ys)
      (λ e. let z : ◌≡◌ {A = ℕ} 0 1 = cc in absurd (omega arith))
      (λ e. absurd (omega (arith, simp length-append at (ap length (same-equal xs (padded 0 (length xs) ys) e)))))

  -- ---- the figures

  to-all : (n : ℕ) → ((k : ℕ) → k < n → get_or xs k 0 ≡ get_or ys k 0) → same_to n xs ys ≡ true
  to-all zero p = refl
  to-all (suc n) p = rw (to-all n (λ k h. p k (omega arith))) (eq-eqb (get_or xs n 0) (get_or ys n 0) (p n (omega arith)))

  to_at : (n i : ℕ) → i < n → same_to n xs ys ≡ true → get_or xs i 0 ≡ get_or ys i 0
  to_at zero i h e = absurd (omega arith)
  to_at (suc n) i h e = go (eqb i n) refl (both (same_to n xs ys) (eqb (get_or xs n 0) (get_or ys n 0)) e) (to_at n i)
    where
      go : (t : Bool) → eqb i n ≡ t → (same_to n xs ys ≡ true) × (eqb (get_or xs n 0) (get_or ys n 0) ≡ true)
          → (i < n → same_to n xs ys ≡ true → get_or xs i 0 ≡ get_or ys i 0) → get_or xs i 0 ≡ get_or ys i 0
      go true p l below = let q : i ≡ n = eqb-true i n p in let r : get_or xs n 0 ≡ get_or ys n 0 = eqb-true _ _ l.1 in cc
      go false p l below = let differ : i ≡ n → ⊥ = eqb-false i n p in below (omega (arith, differ)) l.0

  -- true exactly where two lists of that length are equal; this is there for the reader
  pub to-equal : (n : ℕ) → length xs ≡ n → length ys ≡ n → same_to n xs ys ≡ true → xs ≡ ys
  to-equal n p q e = ext_get_or 0 xs ys (p ∙ sym q) (λ i h. to_at n i (omega (arith, p)) e)

  -- an answer of other than 32 numbers
  pub figures-other : (n : ℕ) → (n ≡ 32 → ⊥) → length ys ≡ n → eqb n 32 ≡ same_stored_figures xs ys
  unfolding same_stored_figures
  figures-other n h q = rw (q, ne_eqb n 32 h)

  -- 32 figures with an answer of 32 are that answer
  pub figures-by : length xs ≡ 32 → length ys ≡ 32 → has_answer xs ys ≡ same_stored_figures xs ys
  unfolding same_stored_figures
  figures-by p q =
      by-both (has_answer xs ys) (same_stored_figures xs ys)
      (λ e. rw (eq-eqb (length ys) 32 q) (to-all 32 (λ k h. has-places e k)))
      (λ e. places-has (omega arith) (λ k h. to_at 32 k (omega arith) (both (eqb (length ys) 32) (same_to 32 xs ys) e).1))
