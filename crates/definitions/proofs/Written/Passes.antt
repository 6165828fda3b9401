-- The notes of every text stand in order, none meets another, and they stand within its rows.
use mathlib.Core.Path.{◌≡◌, refl, ap, ap₂, sym, ◌∙◌, subst}
use mathlib.Core.Logic.{◌⊎◌, inl, inr}
use mathlib.Core.Bool.{Bool, true, false, ◌&&◌, ◌||◌, not}
use mathlib.Core.List.{List, [], ◌∷◌, ◌++◌, map}
use Rattle.std.specs.Prelude.{Option, None, Some}
use Prim.Native.Nat.{ℕ, zero, suc, ◌+◌, ◌≤◌, ◌<◌}
use native.Mathlib.Omega.{arith}
use borrow.Author.Tests.{eqb-true, eq-eqb, lt-ltb, lt-leb, ltb-false}
use lib.Dec.{eqb, leb, ltb}
use lib.ListN.{length, length-append, get_or}
use Rattle.definitions.specs.Lists.{number_of_bool, joined}
use Rattle.definitions.specs.Lines.{Row, cut, line_kind, line_row}
use Rattle.definitions.specs.Cells.{byte_at}
use Rattle.definitions.specs.Measures.{add_line, measures, chart}
use Rattle.definitions.specs.Reduction.{reduce, minimised}
use Rattle.definitions.specs.Notes.{effect_at, meets, tail_row_of, cell_notes, row_notes, notes_from, notes}
use Rattle.definitions.specs.Written.{within_lanes, out_of_order, last_of, meet, meets_one, some_meet, none_given, sum_of, some_past}
use Rattle.definitions.specs.WrittenBack.{row_counts, ReadNotesPass}
use Rattle.definitions.specs.declared.Tail.{Tail}
use Rattle.definitions.specs.declared.Tail.TheVariants as tail
use Rattle.definitions.specs.declared.LineKind.{LineKind}
use Rattle.definitions.specs.declared.LineKind.TheVariants as line
use Rattle.definitions.specs.declared.Note.{Note}
use Rattle.definitions.specs.declared.NoteEffect.{NoteEffect}
use Rattle.definitions.specs.declared.NoteEffect.TheVariants.{Nothing, Closes, Single, Head}
use Rattle.definitions.proofs.Lists.{All, none, one, all_append, all_map, all-joined}
use Rattle.definitions.proofs.ChartRows.{minimised-rows}
use Rattle.definitions.proofs.Tails.{tail_within}
use Rattle.definitions.proofs.Bools.{and-false}
use Rattle.definitions.proofs.Written.Same.{same-test}
use Rattle.definitions.proofs.Written.Notes.{After, Sorted, no_more, first, last, in_order}

-- ---- Where the notes of a cell, of a row and of rows stand
-- a tail is the one that was found
abbrev pub Found : Tail → Option ℕ → Type 0
Found tail.Without t = Unit {0}
Found (tail.Row j) t = t ≡ Some j

reach-found : (i : ℕ) (t : Tail) (f : Option ℕ) → Found t f → (last_of i t ≡ i) ⊎ (f ≡ Some (last_of i t))
reach-found i tail.Without f h = inl refl
reach-found i (tail.Row j) f h = inr h

pub record Placed (i c : ℕ) (t : Option ℕ) (x : Note) : Type 0 where
  pub row : x.row ≡ i
  pub column : x.column ≡ c
  pub tail : Found x.tail t

pub cell-placed : (e : NoteEffect) (i c : ℕ) (t : Option ℕ) → All (Placed i c t) (cell_notes e i c t)
cell-placed Nothing i c t = none
cell-placed Closes i c t = none
cell-placed (Single k) i c t = one (record { row = refl; column = refl; tail = tt }) none
cell-placed (Head k) i c None = none
cell-placed (Head k) i c (Some j) = one (record { row = refl; column = refl; tail = refl }) none

pub record Onwards (i c w : ℕ) (rs : List Row) (x : Note) : Type 0 where
  pub row : x.row ≡ i
  pub column : (c ≤ x.column) × (x.column < c + w)
  pub tail : Found x.tail (tail_row_of x.column (suc i) rs)

pub row-onwards : (i c : ℕ) (bs : Row) (rs : List Row) → All (Onwards i c (length bs) rs) (row_notes i c bs rs)
row-onwards i c [] rs = none
row-onwards i c (b ∷ bs) rs =
    all_append
    (all_map (λ x p. record { row = p.row; column = (omega (arith, p.column), omega (arith, p.column)); tail = subst (λ d. Found x.tail (tail_row_of d (suc i) rs)) (sym p.column) p.tail }) (cell-placed (effect_at b) i c (tail_row_of c (suc i) rs)))
    (all_map (λ x p. let q = p.column in record { row = p.row; column = (omega (arith, q.0), omega (arith, q.1)); tail = p.tail }) (row-onwards i (suc c) bs rs))

-- where a note of row i reaches
abbrev Reach : ℕ → List Row → Note → Type 0
Reach i rs x = (last x ≡ i) ⊎ (tail_row_of x.column (suc i) rs ≡ Some (last x))

reaches : (i c w : ℕ) (rs : List Row) (x : Note) → Onwards i c w rs x → Reach i rs x
reaches i c w rs x p = subst (λ r. (last_of r x.tail ≡ i) ⊎ (tail_row_of x.column (suc i) rs ≡ Some (last_of r x.tail))) (sym p.row) (reach-found i x.tail (tail_row_of x.column (suc i) rs) p.tail)

-- the notes of rows stand and reach in these and below them
pub record Under (i : ℕ) (x : Note) : Type 0 where
  pub row : i ≤ x.row
  pub reach : i ≤ last x

row-under : (i c w : ℕ) (rs : List Row) (x : Note) → Onwards i c w rs x → Under i x
row-under i c w rs x p = record { row = omega (arith, p.row); reach = go (reaches i c w rs x p) }
  where
    go : Reach i rs x → i ≤ last x
    go (inl e) = omega arith
    go (inr e) = let h = tail_within x.column (suc i) rs (last x) e in omega (arith, h.0)

pub rows-under : (i : ℕ) (rs : List Row) → All (Under i) (notes_from i rs)
rows-under i [] = none
rows-under i (r ∷ rs) =
    all_append (all_map (λ x p. row-under i 0 (length r) rs x p) (row-onwards i 0 r rs))
    (all_map (λ x h. record { row = omega (arith, h.row); reach = omega (arith, h.reach) }) (rows-under (suc i) rs))

-- ---- No note stands in a head's column before its tail, nor at it
abbrev Silent : NoteEffect → Type 0
Silent Nothing = Unit {0}
Silent Closes = Unit {0}
Silent (Single k) = ⊥
Silent (Head k) = ⊥

silent-cell : (P : Note → Type 0) (e : NoteEffect) (i c : ℕ) (t : Option ℕ) → Silent e → All P (cell_notes e i c t)
silent-cell P Nothing i c t s = none
silent-cell P Closes i c t s = none
silent-cell P (Single k) i c t s = absurd s
silent-cell P (Head k) i c t s = absurd s

silent-row : (c i d m : ℕ) (bs : Row) (rs : List Row) → c ≡ d + m → Silent (effect_at (get_or bs m 48)) → All (λ y. c ≡ y.column → ⊥) (row_notes i d bs rs)
silent-row c i d m [] rs e s = none
silent-row c i d zero (b ∷ bs) rs e s =
    all_append (silent-cell (λ y. c ≡ y.column → ⊥) (effect_at b) i d (tail_row_of d (suc i) rs) s)
    (all_map (λ y p f. let q = p.column in omega (arith, q.0)) (row-onwards i (suc d) bs rs))
silent-row c i d (suc m) (b ∷ bs) rs e s =
    all_append (all_map (λ y p f. omega (arith, p.column)) (cell-placed (effect_at b) i d (tail_row_of d (suc i) rs)))
    (silent-row c i (suc d) m bs rs (omega arith) s)

beyond : (c k : ℕ) (rs : List Row) (j : ℕ) → tail_row_of c k rs ≡ Some j → All (λ y. c ≡ y.column → j < y.row) (notes_from k rs)
beyond c k [] j e = none
beyond c k (r ∷ rs) j e = go (effect_at (byte_at c r)) (silent-row c k 0 c r rs (omega arith)) e (beyond c (suc k) rs j)
  where
    never : {l : List Note} → All (λ y. c ≡ y.column → ⊥) l → All (λ y. c ≡ y.column → j < y.row) l
    never a = all_map (λ y h f. absurd (h f)) a

    go : (x : NoteEffect) → (Silent x → All (λ y. c ≡ y.column → ⊥) (row_notes k 0 r rs)) → meets x k (tail_row_of c (suc k) rs) ≡ Some j
        → (tail_row_of c (suc k) rs ≡ Some j → All (λ y. c ≡ y.column → j < y.row) (notes_from (suc k) rs))
        → All (λ y. c ≡ y.column → j < y.row) (row_notes k 0 r rs ++ notes_from (suc k) rs)
    go Nothing s q ih = all_append (never (s tt)) (ih q)
    go Closes s q ih = let z : k ≡ j = cc in all_append (never (s tt)) (all_map (λ y h f. omega (arith, h.row)) (rows-under (suc k) rs))
    go (Single n) s q ih = let z : ◌≡◌ {A = ℕ} 0 1 = cc in absurd (omega arith)
    go (Head n) s q ih = let z : ◌≡◌ {A = ℕ} 0 1 = cc in absurd (omega arith)

-- ---- Their order
pub sorted_append : {s t : List Note} → Sorted s → Sorted t → All (λ x. All (After x) t) s → Sorted (s ++ t)
sorted_append no_more q all = q
sorted_append (first a p) q (one h all) = first (all_append a h) (sorted_append p q all)

cell-sorted : (e : NoteEffect) (i c : ℕ) (t : Option ℕ) → Sorted (cell_notes e i c t)
cell-sorted Nothing i c t = no_more
cell-sorted Closes i c t = no_more
cell-sorted (Single k) i c t = first none no_more
cell-sorted (Head k) i c None = no_more
cell-sorted (Head k) i c (Some j) = first none no_more

row-sorted : (i c : ℕ) (bs : Row) (rs : List Row) → Sorted (row_notes i c bs rs)
row-sorted i c [] rs = no_more
row-sorted i c (b ∷ bs) rs =
    sorted_append (cell-sorted (effect_at b) i c (tail_row_of c (suc i) rs)) (row-sorted i (suc c) bs rs)
    (all_map (λ x p. all_map (λ y q. further x y p.row p.column q.row q.column) (row-onwards i (suc c) bs rs)) (cell-placed (effect_at b) i c (tail_row_of c (suc i) rs)))
  where
    further : (x y : Note) → x.row ≡ i → x.column ≡ c → y.row ≡ i → (suc c ≤ y.column) × (y.column < suc c + length bs) → After x y
    further x y a b d e =
        let f = e.0 in
        record { row = omega arith; column = λ g. omega arith; clear = λ g. absurd (omega arith) }

below-row : (i : ℕ) (r : Row) (rs : List Row) (x : Note) → Onwards i 0 (length r) rs x → All (After x) (notes_from (suc i) rs)
below-row i r rs x p = go (reaches i 0 (length r) rs x p)
  where
    under : (y : Note) → suc i ≤ y.row → (x.column ≡ y.column → last x < y.row) → After x y
    under y h k = let e = p.row in record { row = omega arith; column = λ g. absurd (omega arith); clear = k }

    both : {P Q : Note → Type 0} {l : List Note} → All P l → All Q l → All (λ y. P y × Q y) l
    both none none = none
    both (one h a) (one k b) = one (h, k) (both a b)

    go : Reach i rs x → All (After x) (notes_from (suc i) rs)
    go (inl e) = all_map (λ y h. let k = h.row in under y k (λ f. omega arith)) (rows-under (suc i) rs)
    go (inr e) = all_map (λ y h. let k = h.0 in under y k.row h.1) (both (rows-under (suc i) rs) (beyond x.column (suc i) rs (last x) e))

notes-sorted : (i : ℕ) (rs : List Row) → Sorted (notes_from i rs)
notes-sorted i [] = no_more
notes-sorted i (r ∷ rs) = sorted_append (row-sorted i 0 r rs) (notes-sorted (suc i) rs) (all_map (λ x p. below-row i r rs x p) (row-onwards i 0 r rs))

-- ---- And what follows from it
sorted-rises : {ns : List Note} → Sorted ns → in_order ns ≡ true
sorted-rises no_more = refl
sorted-rises (first none no_more) = refl
sorted-rises (first {x = x} (one {a = y} h a) s) = ap₂ (λ b d. b && d) (go (ltb x.row y.row) refl) (sorted-rises s)
  where
    go : (t : Bool) → ltb x.row y.row ≡ t → (t || (eqb x.row y.row && ltb x.column y.column)) ≡ true
    go true e = refl
    go false e =
        let l = ltb-false x.row y.row e in
        let q : x.row ≡ y.row = omega (arith, h.row) in
        ap₂ (λ b d. b && d) (eq-eqb x.row y.row q) (lt-ltb x.column y.column (h.column q))

not-met : (x y : Note) → After x y → meet x y ≡ false
not-met x y h = go (eqb x.column y.column) refl
  where
    go : (t : Bool) → eqb x.column y.column ≡ t → (t && (leb x.row (last y) && leb y.row (last x))) ≡ false
    go true e = ap (λ b. leb x.row (last y) && b) (lt-leb y.row (last x) (h.clear (eqb-true x.column y.column e))) ∙ and-false (leb x.row (last y))
    go false e = refl

met-none : (x : Note) {ns : List Note} → All (After x) ns → meets_one x ns ≡ false
met-none x none = refl
met-none x (one {a = y} h a) = ap₂ (λ b d. b || d) (not-met x y h) (met-none x a)

pub none-meet : {ns : List Note} → Sorted ns → some_meet ns ≡ false
none-meet no_more = refl
none-meet (first {x = x} a s) = ap₂ (λ b d. b || d) (met-none x a) (none-meet s)

narrow-rows : (L i : ℕ) (rs : List Row) → All (λ (r : Row). length r ≡ L) rs → All (λ x. x.column < L) (notes_from i rs)
narrow-rows L i [] none = none
narrow-rows L i (r ∷ rs) (one h a) =
    all_append (all_map (λ x p. let q = p.column in omega (arith, q.1)) (row-onwards i 0 r rs)) (narrow-rows L (suc i) rs a)

few-rows : (i : ℕ) (rs : List Row) → All (λ x. last x < i + length rs) (notes_from i rs)
few-rows i [] = none
few-rows i (r ∷ rs) =
    all_append (all_map (λ x p. go x (reaches i 0 (length r) rs x p)) (row-onwards i 0 r rs)) (all_map (λ x h. omega arith) (few-rows (suc i) rs))
  where
    go : (x : Note) → Reach i rs x → last x < i + suc (length rs)
    go x (inl e) = omega arith
    go x (inr e) = let w = tail_within x.column (suc i) rs (last x) e in omega (arith, w.1)

all-within : (L : ℕ) {ns : List Note} → All (λ x. x.column < L) ns → within_lanes L ns ≡ true
all-within L none = refl
all-within L (one {a = x} h a) = ap₂ (λ b d. b && d) (lt-ltb x.column L h) (all-within L a)

none-past : (t : ℕ) {ns : List Note} → All (λ x. last x < t) ns → some_past t ns ≡ false
none-past t none = refl
none-past t (one {a = x} h a) = ap₂ (λ b d. b || d) (lt-leb t (last x) h) (none-past t a)

pub sum-joined : (ms : List (List Row)) → length (joined ms) ≡ sum_of (map (λ (m : List Row). length m) ms)
sum-joined [] = refl
sum-joined (m ∷ ms) = length-append m (joined ms) ∙ ap (λ k. length m + k) (sum-joined ms)

some-measure : (L : ℕ) (ls : List (List ℕ)) → none_given (map (λ (m : List Row). length m) (map reduce (measures L ls))) ≡ false
some-measure L [] = refl
some-measure L (l ∷ ls) = go (line_kind L l) (measures L ls) (some-measure L ls)
  where
    go : (k : LineKind) (ms : List (List Row)) → none_given (map (λ (m : List Row). length m) (map reduce ms)) ≡ false
        → none_given (map (λ (m : List Row). length m) (map reduce (add_line k (line_row L l) ms))) ≡ false
    go line.Passed ms h = h
    go line.Comma ms h = refl
    go line.Semi ms h = refl
    go line.Row [] h = refl
    go line.Row (m ∷ ms) h = refl

-- all of these
pub record Stand (L : ℕ) (text : List ℕ) : Type 0 where
  pub order : out_of_order L (notes L text) ≡ false
  pub apart : some_meet (notes L text) ≡ false
  pub counted : none_given (row_counts L text) ≡ false
  pub within : some_past (sum_of (row_counts L text)) (notes L text) ≡ false

pub notes-stand : (L : ℕ) (text : List ℕ) → 1 ≤ L → Stand L text
unfolding out_of_order notes minimised chart row_counts
notes-stand L text w =
    let ms : List (List Row) = minimised L text in
    let sorted : Sorted (notes_from 0 (joined ms)) = notes-sorted 0 (joined ms) in
    let widths : All (λ (r : Row). length r ≡ L) (joined ms) = all_map (λ r x. x.size) (all-joined (minimised-rows L text w)) in
    record {
      order = ap not (ap₂ (λ b d. b && d) (sorted-rises sorted) (all-within L (narrow-rows L 0 (joined ms) widths)));
      apart = none-meet sorted;
      counted = some-measure L (cut text);
      within = none-past (sum_of (map (λ (m : List Row). length m) ms)) (subst (λ t. All (λ x. last x < t) (notes_from 0 (joined ms))) (sum-joined ms) (all_map (λ x h. omega arith) (few-rows 0 (joined ms))));
    }

pub read-notes-pass : ReadNotesPass
unfolding ReadNotesPass
read-notes-pass L text w =
    let x = notes-stand L text w in
    record {
      order = same-test _ _ (omega (arith, ap number_of_bool x.order));
      apart = same-test _ _ (omega (arith, ap number_of_bool x.apart));
      counted = same-test _ _ (omega (arith, ap number_of_bool x.counted));
      within = same-test _ _ (omega (arith, ap number_of_bool x.within));
    }
