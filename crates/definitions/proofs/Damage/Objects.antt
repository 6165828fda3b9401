-- Object rows of measures in which each column with a 3 has an object cell before it: they do not depend on the depths before those measures.
use mathlib.Core.Path.{◌≡◌, refl, ap, ap₂, sym, ◌∙◌}
use mathlib.Core.Logic.{◌⊎◌, inl, inr, ⊎_elim}
use mathlib.Core.Bool.{Bool, true, false, ◌||◌}
use mathlib.Core.List.{List, [], ◌∷◌, ◌++◌, append_assoc, map}
use Prim.Native.Nat.{ℕ, zero, suc, ◌+◌, ◌<◌}
use native.Mathlib.Nat.{not-suc-le-zero, add-zero, zero-add, add-suc, suc-add}
use native.Mathlib.Omega.{arith}
use lib.ListN.{length, take, drop, get_or}
use Rattle.definitions.proofs.Columns.{zero-byte}
use Rattle.definitions.specs.Lists.{joined, only_if}
use Rattle.definitions.specs.Lines.{Row}
use Rattle.definitions.specs.Cells.{byte_at, cell_of}
use Rattle.definitions.specs.Reduction.{all_zero, reduce}
use Rattle.definitions.specs.Objects.{object_at, deeper, is_object, Depths, after_row, after_rows, object_from, object_row, Place, objects_in, objects_from, last_of}
use Rattle.definitions.specs.declared.DepthEffect.{DepthEffect}
use Rattle.definitions.specs.declared.DepthEffect.TheVariants.{Nothing, Blocks, Opens, Closes}
use Rattle.definitions.proofs.Thinned.{Thinned, none as thin-none, keep, leave, reduced-thin}
use Rattle.definitions.specs.Damage.{byte_in, HoldObject, ObjectFirst}
use Rattle.definitions.proofs.Damage.Bytes.{object-blocks, closes-three}

-- row i has an object cell in column c
abbrev pub ObjectIn : List Row → ℕ → ℕ → Type 0
ObjectIn rows i c = object_at (byte_in rows i c) ≡ Blocks

abbrev pub Hold : List Row → Type 0
Hold rows = (c : ℕ) × ((i : ℕ) × ObjectIn rows i c)

-- column c over rows: an object cell before each 3
abbrev pub First : ℕ → List Row → Type 0
First c rows = (i : ℕ) → object_at (byte_at c (get_or rows i [])) ≡ Closes → (j : ℕ) × (j < i) × ObjectIn rows j c

-- two depths of column c are the same, or no 3 reads them
abbrev Agree : Depths → Depths → List Row → ℕ → Type 0
Agree D E rows c = (D c ≡ E c) ⊎ First c rows

-- a row is an object row by either depths
from-same : (D E : Depths) (c : ℕ) (r : Row) → ((e : ℕ) → is_object (object_at (byte_at e r)) (D (c + e)) ≡ is_object (object_at (byte_at e r)) (E (c + e)))
    → object_from D c r ≡ object_from E c r
from-same D E c [] h = refl
from-same D E c (b ∷ r) h = ap₂ ◌||◌ (rw add-zero at (h 0)) (from-same D E (suc c) r (λ e. rw (suc-add, ← add-suc) (h (suc e))))

row_same : (D E : Depths) (r : Row) (rows : List Row) → ((c : ℕ) → Agree D E (r ∷ rows) c) → object_row D r ≡ object_row E r
row_same D E r rows h = from-same D E 0 r (λ c. rw zero-add (go c (h c)))
  where
    go : (c : ℕ) → Agree D E (r ∷ rows) c → is_object (object_at (byte_at c r)) (D c) ≡ is_object (object_at (byte_at c r)) (E c)
    go c (inl e) = rw e
    go c (inr f) = to (object_at (byte_at c r)) refl
      where
        to : (x : DepthEffect) → object_at (byte_at c r) ≡ x → is_object x (D c) ≡ is_object x (E c)
        to Nothing p = refl
        to Blocks p = refl
        to Opens p = refl
        to Closes p = absurd (not-suc-le-zero (f 0 p).1)

-- and after it the depths agree
first_rest : (c : ℕ) (r : Row) (rows : List Row) → (object_at (byte_at c r) ≡ Blocks → ⊥) → First c (r ∷ rows) → First c rows
first_rest c r rows n f i e = go (f (suc i) e)
  where
    go : (j : ℕ) × (j < suc i) × ObjectIn (r ∷ rows) j c → (j : ℕ) × (j < i) × ObjectIn rows j c
    go x = to x.0 x.1 x.2
      where
        to : (j : ℕ) → j < suc i → ObjectIn (r ∷ rows) j c → (j : ℕ) × (j < i) × ObjectIn rows j c
        to zero l o = absurd (n o)
        to (suc j) l o = (j, omega arith, o)

-- no other effect is `Blocks`
blocks-only : (x : DepthEffect) → (x ≡ Blocks) ⊎ (x ≡ Blocks → ⊥)
blocks-only Nothing = inr (λ e. let z : ◌≡◌ {A = ℕ} 0 1 = cc in omega arith)
blocks-only Blocks = inl refl
blocks-only Opens = inr (λ e. let z : ◌≡◌ {A = ℕ} 0 1 = cc in omega arith)
blocks-only Closes = inr (λ e. let z : ◌≡◌ {A = ℕ} 0 1 = cc in omega arith)

agree_after : (D E : Depths) (r : Row) (rows : List Row) (c : ℕ) → Agree D E (r ∷ rows) c → Agree (after_row D r) (after_row E r) rows c
agree_after D E r rows c (inl e) = inl (ap (deeper (object_at (byte_at c r))) e)
agree_after D E r rows c (inr f) =
    ⊎_elim (λ p. inl (rw p)) (λ n. inr (first_rest c r rows n f)) (blocks-only (object_at (byte_at c r)))

objects_in-same : (D E : Depths) (m r n : ℕ) (xs rows : List Row) → ((c : ℕ) → Agree D E (xs ++ rows) c)
    → objects_in D m r n xs ≡ objects_in E m r n xs
objects_in-same D E m r n [] rows h = refl
objects_in-same D E m r n (x ∷ xs) rows h =
    ap₂ (λ t l. only_if t (record { m = m; r = r; n = n } ∷ []) ++ l) (row_same D E x (xs ++ rows) h)
    (objects_in-same (after_row D x) (after_row E x) m (suc r) n xs rows (λ c. agree_after D E x (xs ++ rows) c (h c)))

agree-rows : (D E : Depths) (xs rows : List Row) (c : ℕ) → Agree D E (xs ++ rows) c → Agree (after_rows D xs) (after_rows E xs) rows c
agree-rows D E [] rows c h = h
agree-rows D E (x ∷ xs) rows c h = agree-rows (after_row D x) (after_row E x) xs rows c (agree_after D E x (xs ++ rows) c h)

objects-same : (D E : Depths) (m : ℕ) (ms : List (List Row)) → ((c : ℕ) → Agree D E (joined ms) c) → objects_from D m ms ≡ objects_from E m ms
objects-same D E m [] h = refl
objects-same D E m (x ∷ ms) h =
    ap₂ ◌++◌ (objects_in-same D E m 0 (length x) x (joined ms) h)
    (objects-same (after_rows D x) (after_rows E x) (suc m) ms (λ c. agree-rows D E x (joined ms) c (h c)))

-- Measures part: the object rows of the first n, then those of the others.
objects-append : (D : Depths) (m n : ℕ) (ms : List (List Row))
    → objects_from D m ms ≡ objects_from D m (take n ms) ++ objects_from (after_rows D (joined (take n ms))) (m + n) (drop n ms)
objects-append D m zero ms = rw add-zero
objects-append D m (suc n) [] = refl
objects-append D m (suc n) (x ∷ ms) =
    ap (λ l. objects_in D m 0 (length x) x ++ l)
    (objects-append (after_rows D x) (suc m) n ms
    ∙ ap₂ (λ E k. objects_from (after_rows D x) (suc m) (take n ms) ++ objects_from E k (drop n ms)) (rows_append D x (joined (take n ms))) (suc-add m n ∙ sym (add-suc m n)))
    ∙ sym (append_assoc (objects_in D m 0 (length x) x) (objects_from (after_rows D x) (suc m) (take n ms)) _)
  where
    rows_append : (D : Depths) (xs ys : List Row) → after_rows (after_rows D xs) ys ≡ after_rows D (xs ++ ys)
    rows_append D [] ys = refl
    rows_append D (x ∷ xs) ys = rows_append (after_row D x) xs ys

data Filled : List Place → Type 0 where
  full : {p : Place} {ps : List Place} → Filled (p ∷ ps)

filled-left : {s : List Place} (t : List Place) → Filled s → Filled (s ++ t)
filled-left t full = full

filled-right : (s : List Place) {t : List Place} → Filled t → Filled (s ++ t)
filled-right [] h = h
filled-right (a ∷ s) h = full

last-append : (s : List Place) {t : List Place} → Filled t → last_of (s ++ t) ≡ last_of t
last-append [] h = refl
last-append (p ∷ []) full = refl
last-append (p ∷ q ∷ s) h = last-append (q ∷ s) h

-- Rows that hold an object cell have an object row.
from-object : (D : Depths) (e c : ℕ) (x : Row) → object_at (byte_at c x) ≡ Blocks → object_from D e x ≡ true
unfolding object_at cell_of
from-object D e c [] o = let z : ◌≡◌ {A = ℕ} 0 1 = cc in absurd (omega arith)
from-object D e zero (b ∷ x) o = rw o
from-object D e (suc c) (b ∷ x) o = or-true (is_object (object_at b) (D e)) (from-object D (suc e) c x o)
  where
    or-true : (x : Bool) {y : Bool} → y ≡ true → (x || y) ≡ true
    or-true true z = refl
    or-true false z = z

objects_in-filled : (D : Depths) (m r n c : ℕ) (xs rows : List Row) (i : ℕ) → ObjectIn (xs ++ rows) i c
    → Filled (objects_in D m r n xs) ⊎ ((i : ℕ) × ObjectIn rows i c)
objects_in-filled D m r n c [] rows i o = inr (i, o)
objects_in-filled D m r n c (x ∷ xs) rows zero o = inl (rw (from-object D 0 c x o) full)
objects_in-filled D m r n c (x ∷ xs) rows (suc i) o =
    ⊎_elim (λ f. inl (filled-right (only_if (object_row D x) _) f)) inr (objects_in-filled (after_row D x) m (suc r) n c xs rows i o)

objects-filled : (D : Depths) (m c : ℕ) (ms : List (List Row)) (i : ℕ) → ObjectIn (joined ms) i c → Filled (objects_from D m ms)
unfolding object_at cell_of
objects-filled D m c [] i o = let z : ◌≡◌ {A = ℕ} 0 1 = cc in absurd (omega arith)
objects-filled D m c (x ∷ ms) i o =
    ⊎_elim (filled-left (objects_from (after_rows D x) (suc m) ms))
    (λ w. filled-right (objects_in D m 0 (length x) x) (objects-filled (after_rows D x) (suc m) c ms w.0 w.1))
    (objects_in-filled D m 0 (length x) c x (joined ms) i o)

-- The last object row depends only on the later measures, where they hold an object cell and each column has one before its first 3.
abbrev depths_at : ℕ → List (List Row) → Depths
depths_at n ms = after_rows (λ c. 0) (joined (take n ms))

last-is : (n : ℕ) (ms q : List (List Row)) → drop n ms ≡ q → Hold (joined q)
    → last_of (objects_from (λ c. 0) 0 ms) ≡ last_of (objects_from (depths_at n ms) (0 + n) q)
last-is n ms q e h =
    ap last_of (objects-append (λ c. 0) 0 n ms ∙ ap (λ q. objects_from (λ c. 0) 0 (take n ms) ++ objects_from (depths_at n ms) (0 + n) q) e)
    ∙ last-append (objects_from (λ c. 0) 0 (take n ms)) (objects-filled (depths_at n ms) (0 + n) h.0 q h.1.0 h.1.1)

pub last-later : (n : ℕ) (ms ms' : List (List Row)) → drop n ms ≡ drop n ms'
    → Hold (joined (drop n ms)) → ((c : ℕ) → First c (joined (drop n ms)))
    → last_of (objects_from (λ c. 0) 0 ms) ≡ last_of (objects_from (λ c. 0) 0 ms')
last-later n ms ms' e h f =
    last-is n ms (drop n ms) refl h
    ∙ ap last_of (objects-same (depths_at n ms) (depths_at n ms') (0 + n) (drop n ms) (λ c. inr (f c)))
    ∙ sym (last-is n ms' (drop n ms) (sym e) h)

-- Minimising drops only rows that are all zero, so what is asked of the cells of measures may be asked of all their rows.
zero-no-object : (c : ℕ) (r : Row) → all_zero r ≡ true → object_at (byte_at c r) ≡ Blocks → ⊥
unfolding object_at cell_of
zero-no-object c r z o =
    let p : object_at 48 ≡ Blocks = ap object_at (sym (zero-byte c r z)) ∙ o in
    let q : ◌≡◌ {A = ℕ} 0 1 = cc in
    omega arith

hold-thin : (c : ℕ) {s t : List Row} → Thinned s t → (i : ℕ) → ObjectIn s i c → (j : ℕ) × ObjectIn t j c
hold-thin c thin-none i o = (i, o)
hold-thin c (keep p) zero o = (0, o)
hold-thin c (keep p) (suc i) o = let w = hold-thin c p i o in (suc w.0, w.1)
hold-thin c (leave {r = r} z p) zero o = absurd (zero-no-object c r z o)
hold-thin c (leave z p) (suc i) o = hold-thin c p i o

first-thin : (c : ℕ) {s t : List Row} → Thinned s t → First c s → First c t
first-thin c thin-none f = f
first-thin c (leave {r = r} {s = s} z p) f = first-thin c p (first_rest c r s (zero-no-object c r z) f)
first-thin c (keep {r = r} {s = s} {t = t} p) f = go (blocks-only (object_at (byte_at c r))) (first-thin c p)
  where
    go : (object_at (byte_at c r) ≡ Blocks) ⊎ (object_at (byte_at c r) ≡ Blocks → ⊥) → (First c s → First c t) → First c (r ∷ t)
    go w ih zero e = absurd (not-suc-le-zero (f 0 e).1)
    go (inl o) ih (suc i) e = (0, omega arith, o)
    go (inr o) ih (suc i) e = let w = ih (first_rest c r s o f) i e in (suc w.0, omega (arith, w.1), w.2)

pub hold-minimised : (ms : List (List Row)) → HoldObject (joined ms) → Hold (joined (map reduce ms))
unfolding HoldObject
hold-minimised ms h =
    (h.0, hold-thin h.0 (reduced-thin ms) h.1.0 (object-blocks (byte_in (joined ms) h.1.0 h.0) h.1.1))

pub first-minimised : (ms : List (List Row)) → ObjectFirst (joined ms) → (c : ℕ) → First c (joined (map reduce ms))
unfolding ObjectFirst
first-minimised ms f c =
    first-thin c (reduced-thin ms)
    (λ i e. let w = f c i (closes-three (byte_in (joined ms) i c) e) in (w.0, w.1, object-blocks (byte_in (joined ms) w.0 c) w.2))
