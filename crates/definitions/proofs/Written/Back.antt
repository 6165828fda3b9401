-- The notes of the rows that are written for some notes are these notes.
use mathlib.Core.Path.{◌≡◌, refl, ap, ap₂, sym, ◌∙◌, subst}
use mathlib.Core.Bool.{Bool, true, false, cond, ◌&&◌}
use mathlib.Core.List.{List, [], ◌∷◌, ◌++◌}
use Prim.Native.Nat.{ℕ, zero, suc, ◌+◌, ◌≤◌, ◌<◌}
use native.Mathlib.Omega.{arith}
use borrow.Author.Tests.{eqb-true, eqb-false, leb-true, leb-false, le-leb, lt-leb}
use lib.Dec.{eqb, leb}
use Rattle.std.specs.List.{filter}
use Rattle.definitions.specs.Notes.{row_notes, notes_from}
use Rattle.definitions.specs.WriterMakes.{Made}
use Rattle.definitions.specs.Written.{headed, written_row, written_rows}
use Rattle.definitions.specs.declared.Note.{Note}
use Rattle.definitions.proofs.Lists.{All, none, one, all_map, filter-all, filter-none}
use Rattle.definitions.proofs.Bools.{and_left, and_right}
use Rattle.definitions.proofs.Written.Notes.{last, After, Sorted, first, reach-of, not-headed, and_absent, cell-back}

-- ---- A filter in two parts
abbrev Part : Bool → Bool → Bool → Type 0
Part true true true = ⊥
Part true true false = ⊥
Part true false true = Unit {0}
Part true false false = ⊥
Part false true true = Unit {0}
Part false true false = ⊥
Part false false true = ⊥
Part false false false = Unit {0}

filter-parts : (p q r : Note → Bool) (ns : List Note) → Sorted ns → ((y : Note) → Part (p y) (q y) (r y))
    → ((y z : Note) → After y z → q y ≡ true → p z ≡ false) → filter p ns ++ filter q ns ≡ filter r ns
filter-parts p q r [] s part apart = refl
filter-parts p q r (x ∷ ns) (first a s) part apart = go (p x) (q x) (r x) refl (part x) (filter-parts p q r ns s part apart)
  where
    go : (b d e : Bool) → q x ≡ d → Part b d e → filter p ns ++ filter q ns ≡ filter r ns
        → cond b (x ∷ filter p ns) (filter p ns) ++ cond d (x ∷ filter q ns) (filter q ns) ≡ cond e (x ∷ filter r ns) (filter r ns)
    go true true true h k ih = absurd k
    go true true false h k ih = absurd k
    go true false true h k ih = ap (λ (l : List Note). x ∷ l) ih
    go true false false h k ih = absurd k
    go false true true h k ih =
        let e : filter p ns ≡ [] = filter-none p (all_map (λ z f. apart x z f h) a) in
        ap (λ l. l ++ (x ∷ filter q ns)) e ∙ ap (λ (l : List Note). x ∷ l) (sym (ap (λ l. l ++ filter q ns) e) ∙ ih)
    go false true false h k ih = absurd k
    go false false true h k ih = absurd k
    go false false false h k ih = ih

parted : (d c : ℕ) → Part (eqb d c) (leb (suc c) d) (leb c d)
parted d c = go (eqb d c) refl (leb (suc c) d) refl (leb c d) refl
  where
    go : (s : Bool) → eqb d c ≡ s → (t : Bool) → leb (suc c) d ≡ t → (u : Bool) → leb c d ≡ u → Part s t u
    go true e true f true g = absurd (omega (arith, eqb-true d c e, leb-true (suc c) d f))
    go true e true f false g = absurd (omega (arith, eqb-true d c e, leb-true (suc c) d f))
    go true e false f true g = tt
    go true e false f false g = absurd (omega (arith, eqb-true d c e, leb-false c d g))
    go false e true f true g = tt
    go false e true f false g = absurd (omega (arith, leb-true (suc c) d f, leb-false c d g))
    go false e false f true g = absurd (eqb-false d c e (omega (arith, leb-false (suc c) d f, leb-true c d g)))
    go false e false f false g = tt

-- ---- The notes of a row
abbrev onwards : ℕ → ℕ → Note → Bool
onwards i c y = eqb y.row i && leb c y.column

part-row : (i c : ℕ) (y : Note) → Part (headed i c y) (onwards i (suc c) y) (onwards i c y)
part-row i c y = go (eqb y.row i)
  where
    go : (s : Bool) → Part (s && eqb y.column c) (s && leb (suc c) y.column) (s && leb c y.column)
    go true = parted y.column c
    go false = tt

apart-row : (i c : ℕ) (y z : Note) → After y z → onwards i (suc c) y ≡ true → headed i c z ≡ false
apart-row i c y z a h =
    let p : y.row ≡ i = eqb-true y.row i (and_left (eqb y.row i) (leb (suc c) y.column) h) in
    let q : suc c ≤ y.column = leb-true (suc c) y.column (and_right (eqb y.row i) (leb (suc c) y.column) h) in
    not-headed i c z (λ e f. let l = a.column (omega arith) in omega arith)

row-back : (L i n : ℕ) (ns : List Note) → Sorted ns → All Made ns → All (λ y. y.column < L) ns → All (λ y. last y < i + suc n) ns
    → (c k : ℕ) → c + k ≡ L → row_notes i c (written_row ns i c k) (written_rows L ns (suc i) n) ≡ filter (onwards i c) ns
row-back L i n ns s m w v c zero e =
    sym (filter-none (onwards i c) (all_map (λ y h. and_absent y.row i (leb c y.column) (λ f. lt-leb c y.column (omega arith))) w))
row-back L i n ns s m w v c (suc k) e =
    ap₂ (λ (a b : List Note). a ++ b) (cell-back L i c n ns s m (omega arith) v) (row-back L i n ns s m w v (suc c) k (omega arith))
    ∙ filter-parts (headed i c) (onwards i (suc c)) (onwards i c) ns s (part-row i c) (apart-row i c)

-- ---- The notes of all rows
abbrev from_row : ℕ → Note → Bool
from_row i y = leb i y.row

first-column : (i : ℕ) (y : Note) → eqb y.row i ≡ onwards i 0 y
first-column i y = sym (ap (λ t. eqb y.row i && t) (le-leb 0 y.column (omega arith)) ∙ go (eqb y.row i))
  where
    go : (b : Bool) → (b && true) ≡ b
    go true = refl
    go false = refl

part-rows : (i : ℕ) (y : Note) → Part (onwards i 0 y) (from_row (suc i) y) (from_row i y)
part-rows i y = subst (λ b. Part b (from_row (suc i) y) (from_row i y)) (first-column i y) (parted y.row i)

apart-rows : (i : ℕ) (y z : Note) → After y z → from_row (suc i) y ≡ true → onwards i 0 z ≡ false
apart-rows i y z a h =
    let q : suc i ≤ y.row = leb-true (suc i) y.row h in
    let r : y.row ≤ z.row = a.row in
    and_absent z.row i (leb 0 z.column) (λ e. absurd (omega arith))

rows-back : (L : ℕ) (ns : List Note) → Sorted ns → All Made ns → All (λ y. y.column < L) ns → (i n : ℕ) → All (λ y. last y < i + n) ns
    → notes_from i (written_rows L ns i n) ≡ filter (from_row i) ns
rows-back L ns s m w i zero v = sym (filter-none (from_row i) (go ns m v))
  where
    go : (l : List Note) → All Made l → All (λ y. last y < i + 0) l → All (λ y. from_row i y ≡ false) l
    go [] none none = none
    go (y ∷ l) (one h a) (one k b) = one (lt-leb i y.row (omega (arith, reach-of y.row y.kind y.tail h.tail))) (go l a b)
rows-back L ns s m w i (suc n) v =
    ap₂ (λ (a b : List Note). a ++ b) (row-back L i n ns s m w v 0 L (zero_add L)) (rows-back L ns s m w (suc i) n (all_map (λ y h. omega arith) v))
    ∙ filter-parts (onwards i 0) (from_row (suc i)) (from_row i) ns s (part-rows i) (apart-rows i)
  where
    zero_add : (k : ℕ) → 0 + k ≡ k
    zero_add k = omega arith

-- All of them are the notes.
pub all-back : (L : ℕ) (ns : List Note) → Sorted ns → All Made ns → All (λ y. y.column < L) ns → (n : ℕ) → All (λ y. last y < n) ns
    → notes_from 0 (written_rows L ns 0 n) ≡ ns
all-back L ns s m w n v =
    rows-back L ns s m w 0 n (all_map (λ y h. omega arith) v) ∙ filter-all (from_row 0) (all_map (λ y h. le-leb 0 y.row (omega arith)) w)
