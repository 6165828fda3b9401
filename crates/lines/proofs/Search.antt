-- Laws of the search for a byte and of `count_of`: one turn of the loop over a slice's last bytes, lists put together, and what the search's answer shows of
-- the list before the byte.
use Rattle.std.proofs.Common.{◌≡◌, ℕ, suc, ◌+◌, ◌-◌, ◌<◌, ◌≤◌, Bool, true, false, cond, eqb, List, [], ◌∷◌, ◌++◌, length, get_or, take, drop, refl, sym, ap, ◌∙◌, add-one, arith, drop_of_length-le, drop-cons, drop-drop, length-drop, eq-eqb, ne_eqb}
use Rattle.definitions.specs.Lists.{number_of_bool, up_to, after}
use Rattle.definitions.proofs.Lists.{count-cons as one_more}
use Rattle.lines.proofs.Trims.{part-all}
use native.Mathlib.Nat.{sub-zero}
use lib.ListN.{length-take}
use Rattle.std.proofs.lemmas.Iterator.Adapters.{position_from-zero}
use Rattle.std.specs.Prelude.{Option, Some, None, position, ◌==◌}
use Rattle.std.specs.List.{position_from}
use Rattle.std.proofs.lemmas.List.Sums.{sum_by-append, count_by-le-length}
use Rattle.lines.specs.Search.{count_of}

-- where b stands first in a list whose first element has the place k
abbrev pub find_from : ℕ → ℕ → List ℕ → Option ℕ
find_from b k [] = None
find_from b k (x ∷ xs) = cond (eqb x b) (Some k) (find_from b (suc k) xs)

from : (b k : ℕ) (xs : List ℕ) → position_from (λ x. eqb x b) k xs ≡ find_from b k xs
from b k [] = refl
from b k (x ∷ xs) = ap (cond (eqb x b) (Some k)) (rw add-one (from b (suc k) xs))

pub found-position : (b : ℕ) (xs : List ℕ) → position (λ x. x == b) xs ≡ find_from b 0 xs
found-position b xs = position_from-zero (λ x. eqb x b) xs ∙ from b 0 xs

-- and the same from a place on
pub found_from : (b k : ℕ) (xs : List ℕ) → position_from (λ x. x == b) k xs ≡ find_from b k xs
found_from b k xs = from b k xs

-- b stands at i
pub find-hit : (b : ℕ) (s : List ℕ) (i : ℕ) → i < length s → get_or s i 0 ≡ b → find_from b i (drop i s) ≡ Some i
find-hit b s i h e = rw (drop-cons s i 0) (simp (eq-eqb _ _ e))

-- it does not
pub find-miss : (b : ℕ) (s : List ℕ) (i : ℕ) → i < length s → (get_or s i 0 ≡ b → ⊥) → find_from b i (drop i s) ≡ find_from b (i + 1) (drop (i + 1) s)
find-miss b s i h e = rw (add-one, drop-cons s i 0) (simp (ne_eqb _ _ e))

-- nothing is left
pub find-end : (b : ℕ) (s : List ℕ) (i : ℕ) → length s ≤ i → find_from b i (drop i s) ≡ None
find-end b s i h = rw (drop_of_length-le s h)

-- one byte more that may be b
pub count-cons : (b x : ℕ) (s : List ℕ) → count_of b (x ∷ s) ≡ number_of_bool (eqb x b) + count_of b s
unfolding count_of
count-cons b x s = one_more (λ y. eqb y b) x s

-- the same of the count
pub count-hit : (b : ℕ) (s : List ℕ) (i : ℕ) → i < length s → get_or s i 0 ≡ b → count_of b (drop i s) ≡ 1 + count_of b (drop (i + 1) s)
count-hit b s i h e = rw (add-one, drop-cons s i 0 h, count-cons, eq-eqb _ _ e)

pub count-miss : (b : ℕ) (s : List ℕ) (i : ℕ) → i < length s → (get_or s i 0 ≡ b → ⊥) → count_of b (drop i s) ≡ count_of b (drop (i + 1) s)
count-miss b s i h e = rw (add-one, drop-cons s i 0 h, count-cons, ne_eqb _ _ e) (omega arith)

pub count-end : (b : ℕ) (s : List ℕ) (i : ℕ) → length s ≤ i → count_of b (drop i s) ≡ 0
unfolding count_of
count-end b s i h = rw (drop_of_length-le s h)

pub count-append : (b : ℕ) (s t : List ℕ) → count_of b (s ++ t) ≡ count_of b s + count_of b t
unfolding count_of
count-append b s t = sum_by-append (λ x. cond (eqb x b) 1 0) s t

-- a byte stands in a list no more often than the list is long
pub count-le : (b : ℕ) (s : List ℕ) → count_of b s ≤ length s
unfolding count_of
count-le b s = count_by-le-length (λ x. eqb x b) s

-- What the search's answer shows of the list before the byte: `Some r` is its length, counted from k.
abbrev pub FrontFound : ℕ → ℕ → List ℕ → List ℕ → Type 0
FrontFound k r l front = (k ≤ r) × (r < k + length l) × (take (r - k) l ≡ front)

found-step : (b x : ℕ) (xs : List ℕ) (k r : ℕ) (t : Bool) → (find_from b (suc k) xs ≡ Some r → FrontFound (suc k) r xs (up_to b xs))
    → cond t (Some k) (find_from b (suc k) xs) ≡ Some r → FrontFound k r (x ∷ xs) (cond t [] (x ∷ up_to b xs))
found-step b x xs k r true ih e =
    let same : k ≡ r = cc in
    let z : r - k ≡ 0 = omega arith in
    (omega arith, omega arith, rw z)
found-step b x xs k r false ih e =
    let h = ih e in
    let z : r - k ≡ suc (r - suc k) = omega (arith, h.0) in
    (omega (arith, h.0), omega (arith, h.1), rw z (ap {B = List ℕ} (λ l. x ∷ l) h.2))

pub front-found : (b : ℕ) (l : List ℕ) (k r : ℕ) → find_from b k l ≡ Some r → FrontFound k r l (up_to b l)
unfolding up_to
front-found b [] k r e = let z : ◌≡◌ {A = ℕ} 0 1 = cc in absurd (omega arith)
front-found b (x ∷ xs) k r e = found-step b x xs k r (eqb x b) (front-found b xs (suc k) r) e

none-step : (b x : ℕ) (xs : List ℕ) (k : ℕ) (t : Bool) → (find_from b (suc k) xs ≡ None → up_to b xs ≡ xs)
    → cond t (Some k) (find_from b (suc k) xs) ≡ None → cond t [] (x ∷ up_to b xs) ≡ x ∷ xs
none-step b x xs k true ih e = let z : ◌≡◌ {A = ℕ} 0 1 = cc in absurd (omega arith)
none-step b x xs k false ih e = ap {B = List ℕ} (λ l. x ∷ l) (ih e)

-- where the search finds nothing, all of the list is before it
pub front-none : (b : ℕ) (l : List ℕ) (k : ℕ) → find_from b k l ≡ None → up_to b l ≡ l
unfolding up_to
front-none b [] k e = refl
front-none b (x ∷ xs) k e = none-step b x xs k (eqb x b) (front-none b xs (suc k)) e

-- the same of std's search
pub front_at : (b : ℕ) (l : List ℕ) (r : ℕ) → position (λ x. x == b) l ≡ Some r → (r < length l) × (take r l ≡ up_to b l)
front_at b l r e =
    let f = front-found b l 0 r (sym (found-position b l) ∙ e) in
    (omega (arith, f.1), rw sub-zero at f.2)

pub front_all : (b : ℕ) (l : List ℕ) → position (λ x. x == b) l ≡ None → up_to b l ≡ l
front_all b l e = front-none b l 0 (sym (found-position b l) ∙ e)

-- and what follows the byte, as `&l[r + 1..]` has it
pub after_at : (b : ℕ) (l : List ℕ) (r : ℕ) → position (λ x. x == b) l ≡ Some r → take (length l - (r + 1)) (drop (r + 1) l) ≡ after b l
unfolding after
after_at b l r e =
    let f = front_at b l r e in
    let long : length (up_to b l) ≡ r = rw (← f.1, length-take) (omega (arith, f.0)) in
    rw (part-all l (r + 1), long, add-one) refl

pub after_all : (b : ℕ) (l : List ℕ) → position (λ x. x == b) l ≡ None → [] ≡ after b l
unfolding after
after_all b l e = let all : length l ≤ suc (length l) = omega arith in rw (front_all b l e) (sym (drop_of_length-le l all))

pub ruleset found = (front_at, front_all, after_at, after_all)

-- the same of the search from k on
pub below-found : (b : ℕ) (s : List ℕ) (k r : ℕ) → k ≤ length s → position_from (λ x. x == b) k (drop k s) ≡ Some r
    → (r < length s) × (drop (r + 1) s ≡ after b (drop k s))
unfolding after
below-found b s k r h e =
    let l = drop k s in
    let f = front-found b l k r (sym (found_from b k l) ∙ e) in
    let n : length l ≡ length s - k = length-drop k s in
    let long : length (up_to b l) ≡ r - k = rw (← f.2, length-take) (omega (arith, f.0, f.1)) in
    let place : r + 1 ≡ k + suc (r - k) = omega (arith, f.0) in
    (omega (arith, f.0, f.1), rw (long, place) (sym (drop-drop (suc (r - k)) k s)))

pub below-none : (b : ℕ) (s : List ℕ) (k : ℕ) → position_from (λ x. x == b) k (drop k s) ≡ None → [] ≡ after b (drop k s)
unfolding after
below-none b s k e =
    let l = drop k s in
    let all : length l ≤ suc (length l) = omega arith in
    rw (front-none b l k (sym (found_from b k l) ∙ e)) (sym (drop_of_length-le l all))

-- and where the search from further on finds the same, the same follows
pub below-same : (b : ℕ) (s : List ℕ) (k m : ℕ) → k ≤ length s → m ≤ length s
    → position_from (λ x. x == b) k (drop k s) ≡ position_from (λ x. x == b) m (drop m s) → after b (drop k s) ≡ after b (drop m s)
below-same b s k m h g e = go (position_from (λ x. x == b) m (drop m s)) refl
  where
    go : (o : Option ℕ) → position_from (λ x. x == b) m (drop m s) ≡ o → after b (drop k s) ≡ after b (drop m s)
    go (Some r) q = sym (below-found b s k r h (e ∙ q)).1 ∙ (below-found b s m r g q).1
    go None q = sym (below-none b s k (e ∙ q)) ∙ below-none b s m q
