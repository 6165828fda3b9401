-- Notes in order, and what the cell says that is written for each.
use mathlib.Core.Path.{◌≡◌, refl, ap, ap₂, sym, ◌∙◌, subst}
use mathlib.Core.Logic.{◌⊎◌, inl, inr}
use mathlib.Core.Bool.{Bool, true, false, cond, ◌&&◌, ◌||◌}
use mathlib.Core.List.{List, [], ◌∷◌, ◌++◌}
use Rattle.std.specs.Prelude.{Option, Some}
use Prim.Native.Nat.{ℕ, zero, suc, ◌+◌, ◌≤◌, ◌<◌}
use native.Mathlib.Omega.{arith}
use borrow.Author.Tests.{eqb-true, eq-eqb, ne_eqb, ltb-true, ltb-false, leb-false, le-leb}
use lib.Dec.{eqb, leb, ltb}
use lib.ListN.{get_or}
use Rattle.std.specs.List.{filter}
use Rattle.std.proofs.lemmas.Bool.{or_parts}
use Rattle.definitions.specs.Lists.{before, rises}
use Rattle.definitions.specs.Cells.{cell_of, byte_at}
use Rattle.definitions.specs.Notes.{effect_at, meets, tail_row_of, held_note, cell_notes}
use Rattle.definitions.specs.WriterMakes.{TailMade, Made}
use Rattle.definitions.specs.Written.{letter_of, headed, ends_at, tailed, written_cell, written_row, written_rows, last_of, meet, meets_one, some_meet}
use Rattle.definitions.specs.declared.Kind.{Kind}
use Rattle.definitions.specs.declared.Kind.TheVariants.{Tap, Hold, Roll, Mine, Lift, Fake}
use Rattle.definitions.specs.declared.Tail.{Tail}
use Rattle.definitions.specs.declared.Tail.TheVariants as tail
use Rattle.definitions.specs.declared.Note.{Note}
use Rattle.definitions.proofs.Lists.{All, none, one, all_map, filter-none, filter-right}
use Rattle.definitions.proofs.Bools.{and_left, and_right}

abbrev pub last : Note → ℕ
last n = last_of n.row n.tail

abbrev pub in_order : List Note → Bool
in_order ns = rises (λ n. n.row) (λ n. n.column) ns

-- ---- Notes in order
-- y stands below x by row, then column, and in x's column past all that x reaches
pub record After (x y : Note) : Type 0 where
  pub row : x.row ≤ y.row
  pub column : x.row ≡ y.row → x.column < y.column
  pub clear : x.column ≡ y.column → last x < y.row

pub data Sorted : List Note → Type 0 where
  no_more : Sorted []
  first : {x : Note} {ns : List Note} → All (After x) ns → Sorted ns → Sorted (x ∷ ns)

pub record Below (x y : Note) : Type 0 where
  pub row : x.row ≤ y.row
  pub column : x.row ≡ y.row → x.column < y.column

pub is-below : (x y : Note) → before x.row x.column y.row y.column ≡ true → Below x y
is-below x y h = go (ltb x.row y.row) refl (eqb x.row y.row) refl h
  where
    go : (s : Bool) → ltb x.row y.row ≡ s → (t : Bool) → eqb x.row y.row ≡ t → (s || (t && ltb x.column y.column)) ≡ true → Below x y
    go true e t f h = let l = ltb-true x.row y.row e in record { row = omega arith; column = λ q. absurd (omega arith) }
    go false e true f h =
        let q = eqb-true x.row y.row f in
        let l = ltb-true x.column y.column h in
        record { row = omega arith; column = λ r. l }
    go false e false f h = let z : ◌≡◌ {A = ℕ} 0 1 = cc in absurd (omega arith)

below-below : (x y z : Note) → Below x y → Below y z → Below x z
below-below x y z p q =
    record {
      row = omega (arith, p.row, q.row);
      column =
          λ e.
          let a = p.column (omega (arith, p.row, q.row)) in
          let b = q.column (omega (arith, p.row, q.row)) in
          omega arith;
    }

pub all-below : (x : Note) (ns : List Note) → in_order (x ∷ ns) ≡ true → All (Below x) ns
all-below x [] h = none
all-below x (y ∷ ns) h =
    let p : Below x y = is-below x y (and_left (before x.row x.column y.row y.column) (in_order (y ∷ ns)) h) in
    one p (all_map (λ z q. below-below x y z p q) (all-below y ns (and_right (before x.row x.column y.row y.column) (in_order (y ∷ ns)) h)))

pub reach-of : (r : ℕ) (k : Kind) (t : Tail) → TailMade r k t → r ≤ last_of r t
reach-of r k tail.Without m = omega arith
reach-of r Tap (tail.Row j) m = absurd m
reach-of r Hold (tail.Row j) m = omega (arith, m.0)
reach-of r Roll (tail.Row j) m = omega (arith, m.0)
reach-of r Mine (tail.Row j) m = absurd m
reach-of r Lift (tail.Row j) m = absurd m
reach-of r Fake (tail.Row j) m = absurd m

is-clear : (x y : Note) → Made y → Below x y → meet x y ≡ false → x.column ≡ y.column → last x < y.row
is-clear x y m p h e =
    let reach : y.row ≤ last y = reach-of y.row y.kind y.tail m.tail in
    let a : eqb x.column y.column ≡ true = eq-eqb x.column y.column e in
    let b : leb x.row (last y) ≡ true = le-leb x.row (last y) (omega (arith, p.row)) in
    leb-false y.row (last x) (sym (ap₂ (λ s t. s && (t && leb y.row (last x))) a b) ∙ h)

all-after : (x : Note) (ns : List Note) → All Made ns → All (Below x) ns → meets_one x ns ≡ false → All (After x) ns
all-after x [] none none h = none
all-after x (y ∷ ns) (one m ms) (one p ps) h =
    one
    (record { row = p.row; column = p.column; clear = is-clear x y m p (or_parts (meet x y) (meets_one x ns) h).0 })
    (all-after x ns ms ps (or_parts (meet x y) (meets_one x ns) h).1)

rises-tail : (x : Note) (ns : List Note) → in_order (x ∷ ns) ≡ true → in_order ns ≡ true
rises-tail x [] h = refl
rises-tail x (y ∷ ns) h = and_right (before x.row x.column y.row y.column) (in_order (y ∷ ns)) h

pub is-sorted : (ns : List Note) → All Made ns → in_order ns ≡ true → some_meet ns ≡ false → Sorted ns
is-sorted [] m r h = no_more
is-sorted (x ∷ ns) (one p ms) r h =
    first (all-after x ns ms (all-below x ns r) (or_parts (meets_one x ns) (some_meet ns) h).0)
    (is-sorted ns ms (rises-tail x ns r) (or_parts (meets_one x ns) (some_meet ns) h).1)

-- what stands around a note in a sorted list
pub record Around (pre : List Note) (x : Note) (post : List Note) : Type 0 where
  pub earlier : All (λ y. After y x) pre
  pub later : All (After x) post

pub around : (pre : List Note) (x : Note) (post : List Note) → Sorted (pre ++ (x ∷ post)) → Around pre x post
around [] x post (first a s) = record { earlier = none; later = a }
around (y ∷ pre) x post (first a s) =
    let r : Around pre x post = around pre x post s in
    record { earlier = one (at pre a) r.earlier; later = r.later }
  where
    at : (pre : List Note) → All (After y) (pre ++ (x ∷ post)) → After y x
    at [] (one h a) = h
    at (z ∷ pre) (one h a) = at pre a

-- ---- A cell
-- a note wants nothing there
pub record Quiet (i c : ℕ) (y : Note) : Type 0 where
  pub head : headed i c y ≡ false
  pub tail : tailed i c y ≡ false

pub past-quiet : (i c : ℕ) (pre s : List Note) → All (Quiet i c) pre → written_cell (pre ++ s) i c ≡ written_cell s i c
past-quiet i c [] s none = refl
past-quiet i c (y ∷ pre) s (one q a) = rw (q.head, q.tail) (past-quiet i c pre s a)

pub all-quiet : (i c : ℕ) (ns : List Note) → All (Quiet i c) ns → written_cell ns i c ≡ 48
all-quiet i c [] none = refl
all-quiet i c (y ∷ ns) (one q a) = rw (q.head, q.tail) (all-quiet i c ns a)

pub and_absent : (x y : ℕ) (b : Bool) → (x ≡ y → b ≡ false) → (eqb x y && b) ≡ false
and_absent x y b h = go (eqb x y) refl
  where
    go : (t : Bool) → eqb x y ≡ t → (t && b) ≡ false
    go true e = h (eqb-true x y e)
    go false e = refl

-- nothing stands at a place where no note of the column has its row
pub not-headed : (i c : ℕ) (y : Note) → (y.column ≡ c → y.row ≡ i → ⊥) → headed i c y ≡ false
not-headed i c y h = and_absent y.row i (eqb y.column c) (λ e. ne_eqb y.column c (λ f. h f e))

not-ended : (i : ℕ) (r : ℕ) (t : Tail) → r ≤ last_of r t → (last_of r t < i) ⊎ (i < r) → ends_at i t ≡ false
not-ended i r tail.Without w h = refl
not-ended i r (tail.Row j) w (inl h) = ne_eqb j i (λ e. omega arith)
not-ended i r (tail.Row j) w (inr h) = ne_eqb j i (λ e. omega arith)

and_none : (a b : Bool) → (b ≡ true → a ≡ false) → (a && b) ≡ false
and_none true true h = h refl
and_none true false h = refl
and_none false b h = refl

-- a note that reaches no row as high, or as low
pub quiet-past : (i c : ℕ) (y : Note) → y.row ≤ last y → (y.column ≡ c → (last y < i) ⊎ (i < y.row)) → Quiet i c y
quiet-past i c y w h =
    record {
      head = not-headed i c y (λ e f. out (h e) f);
      tail = and_none (ends_at i y.tail) (eqb y.column c) (λ e. not-ended i y.row y.tail w (h (eqb-true y.column c e)));
    }
  where
    out : (last y < i) ⊎ (i < y.row) → y.row ≡ i → ⊥
    out (inl g) f = omega arith
    out (inr g) f = omega arith

-- ---- One note's cell
data View (i c : ℕ) (ns : List Note) : Type 0 where
  nobody : All (λ y. headed i c y ≡ false) ns → View i c ns
  somebody : (pre : List Note) (x : Note) (post : List Note) → ns ≡ pre ++ (x ∷ post) → headed i c x ≡ true → View i c ns

view : (i c : ℕ) (ns : List Note) → View i c ns
view i c [] = nobody none
view i c (y ∷ ns) = go (headed i c y) refl (view i c ns)
  where
    go : (t : Bool) → headed i c y ≡ t → View i c ns → View i c (y ∷ ns)
    go true e v = somebody [] y ns refl e
    go false e (nobody a) = nobody (one e a)
    go false e (somebody pre x post f h) = somebody (y ∷ pre) x post (ap (λ (l : List Note). y ∷ l) f) h

-- where nobody stands there is a tail or nothing
silent-cell : (i c : ℕ) (ns : List Note) → All (λ y. headed i c y ≡ false) ns → (t : Option ℕ) → cell_notes (effect_at (written_cell ns i c)) i c t ≡ []
unfolding effect_at cell_of
silent-cell i c [] none t = refl
silent-cell i c (y ∷ ns) (one h a) t = ap (λ s. cell_notes (effect_at (cond s (letter_of y.kind) (cond (tailed i c y) 51 (written_cell ns i c)))) i c t) h ∙ go (tailed i c y) (silent-cell i c ns a t)
  where
    go : (s : Bool) → cell_notes (effect_at (written_cell ns i c)) i c t ≡ [] → cell_notes (effect_at (cond s 51 (written_cell ns i c))) i c t ≡ []
    go true e = refl
    go false e = e

-- the letter of a note, with the tail that is found for a head, gives the note
letter-notes : (i c : ℕ) (k : Kind) (t : Tail) (found : Option ℕ) → TailMade i k t → ((j : ℕ) → t ≡ tail.Row j → found ≡ Some j)
    → cell_notes (effect_at (letter_of k)) i c found ≡ record { row = i; tail = t; column = c; kind = k } ∷ []
unfolding effect_at cell_of
letter-notes i c Tap tail.Without found m h = refl
letter-notes i c Tap (tail.Row j) found m h = absurd m
letter-notes i c Hold tail.Without found m h = absurd m
letter-notes i c Hold (tail.Row j) found m h = ap (held_note i c Hold) (h j refl)
letter-notes i c Roll tail.Without found m h = absurd m
letter-notes i c Roll (tail.Row j) found m h = ap (held_note i c Roll) (h j refl)
letter-notes i c Mine tail.Without found m h = refl
letter-notes i c Mine (tail.Row j) found m h = absurd m
letter-notes i c Lift tail.Without found m h = refl
letter-notes i c Lift (tail.Row j) found m h = absurd m
letter-notes i c Fake tail.Without found m h = refl
letter-notes i c Fake (tail.Row j) found m h = absurd m

-- ---- The tail of a head
get-row : (ns : List Note) (i c k d : ℕ) → d < k → get_or (written_row ns i c k) d 48 ≡ written_cell ns i (c + d)
get-row ns i c zero d h = absurd (omega arith)
get-row ns i c (suc k) zero h = let e : c ≡ c + 0 = omega arith in ap (written_cell ns i) e
get-row ns i c (suc k) (suc d) h =
    let e : suc c + d ≡ c + suc d = omega arith in
    get-row ns i (suc c) k d (omega arith) ∙ ap (written_cell ns i) e

get-cell : (ns : List Note) (i L c : ℕ) → c < L → byte_at c (written_row ns i 0 L) ≡ written_cell ns i c
get-cell ns i L c h = let e : 0 + c ≡ c = omega arith in get-row ns i 0 L c h ∙ ap (written_cell ns i) e

closing : (k x : ℕ) → x ≡ 51 → (t : Option ℕ) → meets (effect_at x) k t ≡ Some k
unfolding effect_at cell_of
closing k x e t = ap (λ y. meets (effect_at y) k t) e

passing : (k x : ℕ) → x ≡ 48 → (t : Option ℕ) → meets (effect_at x) k t ≡ t
unfolding effect_at cell_of
passing k x e t = ap (λ y. meets (effect_at y) k t) e

tail-found : (L c : ℕ) (ns : List Note) (k n j : ℕ) → c < L → k ≤ j → j < k + n → ((m : ℕ) → k ≤ m → m < j → written_cell ns m c ≡ 48)
    → written_cell ns j c ≡ 51 → tail_row_of c k (written_rows L ns k n) ≡ Some j
tail-found L c ns k zero j w a b early at = absurd (omega arith)
tail-found L c ns k (suc n) j w a b early at =
    ap (λ x. meets (effect_at x) k (tail_row_of c (suc k) (written_rows L ns (suc k) n))) (get-cell ns k L c w)
    ∙ go (ltb k j) refl (λ g. tail-found L c ns (suc k) n j w g (omega arith) (λ m p q. early m (omega arith) q) at)
  where
    go : (s : Bool) → ltb k j ≡ s → (suc k ≤ j → tail_row_of c (suc k) (written_rows L ns (suc k) n) ≡ Some j)
        → meets (effect_at (written_cell ns k c)) k (tail_row_of c (suc k) (written_rows L ns (suc k) n)) ≡ Some j
    go true e ih =
        let l = ltb-true k j e in
        passing k (written_cell ns k c) (early k (omega arith) l) (tail_row_of c (suc k) (written_rows L ns (suc k) n)) ∙ ih (omega arith)
    go false e ih =
        let l = ltb-false k j e in
        let q : k ≡ j = omega arith in
        closing k (written_cell ns k c) (ap (λ m. written_cell ns m c) q ∙ at) (tail_row_of c (suc k) (written_rows L ns (suc k) n)) ∙ ap Some q

-- ---- The notes of a cell
abbrev pub Reaching : Note → Type 0
Reaching y = y.row ≤ last y

all-left : {P : Note → Type 0} (s t : List Note) → All P (s ++ t) → All P s
all-left [] t a = none
all-left (y ∷ s) t (one h a) = one h (all-left s t a)

all-right : {P : Note → Type 0} (s : List Note) {t : List Note} → All P (s ++ t) → All P t
all-right [] a = a
all-right (y ∷ s) (one h a) = all-right s a

module _ (pre : List Note) (x : Note) (post : List Note) (sorted : Sorted (pre ++ (x ∷ post))) (made : All Made (pre ++ (x ∷ post))) where
  abbrev i : ℕ
  i = x.row

  abbrev c : ℕ
  c = x.column

  abbrev all : List Note
  all = pre ++ (x ∷ post)

  reaching : {l : List Note} → All Made l → All Reaching l
  reaching m = all_map (λ y h. reach-of y.row y.kind y.tail h.tail) m

  -- those before the note are quiet in its column from its row on, those after it as far as it reaches
  before-quiet : (m : ℕ) → i ≤ m → All (Quiet m c) pre
  before-quiet m w = go pre (around pre x post sorted).earlier (reaching (all-left pre (x ∷ post) made))
    where
      go : (l : List Note) → All (λ y. After y x) l → All Reaching l → All (Quiet m c) l
      go [] none none = none
      go (y ∷ l) (one h a) (one r b) = one (quiet-past m c y r (λ e. let k = h.clear e in inl (omega arith))) (go l a b)

  after-quiet : (m : ℕ) → m ≤ last x → All (Quiet m c) post
  after-quiet m w = go post (around pre x post sorted).later (reaching (rest (all-right pre made)))
    where
      rest : All Made (x ∷ post) → All Made post
      rest (one h a) = a

      go : (l : List Note) → All (After x) l → All Reaching l → All (Quiet m c) l
      go [] none none = none
      go (y ∷ l) (one h a) (one r b) = one (quiet-past m c y r (λ e. let k = h.clear (sym e) in inr (omega arith))) (go l a b)

  own-made : Made x
  own-made = go (all-right pre made)
    where
      go : All Made (x ∷ post) → Made x
      go (one h a) = h

  own-reach : i ≤ last x
  own-reach = reach-of x.row x.kind x.tail own-made.tail

  own-headed : headed i c x ≡ true
  own-headed = rw (eq-eqb x.row x.row refl) (eq-eqb x.column x.column refl)

  own-cell : written_cell all i c ≡ letter_of x.kind
  own-cell =
      past-quiet i c pre (x ∷ post) (before-quiet i (omega arith))
      ∙ ap (λ t. cond t (letter_of x.kind) (cond (tailed i c x) 51 (written_cell post i c))) own-headed

  -- below its row
  below-cell : (m : ℕ) → i < m → m ≤ last x → written_cell all m c ≡ cond (ends_at m x.tail) 51 48
  below-cell m w v =
      past-quiet m c pre (x ∷ post) (before-quiet m (omega arith))
      ∙ ap (λ t. cond t (letter_of x.kind) (cond (tailed m c x) 51 (written_cell post m c))) (not-headed m c x (λ e f. omega arith))
      ∙ ap (λ t. cond (tailed m c x) 51 t) (all-quiet m c post (after-quiet m v))
      ∙ ap (λ t. cond t 51 48) (ap (λ t. ends_at m x.tail && t) (eq-eqb x.column x.column refl) ∙ and_true (ends_at m x.tail))
    where
      and_true : (b : Bool) → (b && true) ≡ b
      and_true true = refl
      and_true false = refl

  tail-is : (L n : ℕ) → c < L → last x < suc i + n → (j : ℕ) → x.tail ≡ tail.Row j → tail_row_of c (suc i) (written_rows L all (suc i) n) ≡ Some j
  tail-is L n w v j e =
      let q : last x ≡ j = ap (last_of i) e in
      let up : i < j = higher x.kind (subst (TailMade i x.kind) e own-made.tail) in
      tail-found L c all (suc i) n j w (omega arith) (omega arith)
      (λ m a b. below-cell m (omega arith) (omega arith) ∙ ap (λ t. cond (ends_at m t) 51 48) e ∙ ap (λ t. cond t 51 48) (ne_eqb j m (λ f. omega arith)))
      (below-cell j up (omega arith) ∙ ap (λ t. cond (ends_at j t) 51 48) e ∙ ap (λ t. cond t 51 48) (eq-eqb j j refl))
    where
      higher : (k : Kind) → TailMade i k (tail.Row j) → i < j
      higher Tap m = absurd m
      higher Hold m = m.0
      higher Roll m = m.0
      higher Mine m = absurd m
      higher Lift m = absurd m
      higher Fake m = absurd m

  one-note : (L n : ℕ) → c < L → last x < suc i + n
      → cell_notes (effect_at (written_cell all i c)) i c (tail_row_of c (suc i) (written_rows L all (suc i) n)) ≡ filter (headed i c) all
  one-note L n w v =
      ap (λ b. cell_notes (effect_at b) i c (tail_row_of c (suc i) (written_rows L all (suc i) n))) own-cell
      ∙ letter-notes i c x.kind x.tail (tail_row_of c (suc i) (written_rows L all (suc i) n)) own-made.tail (tail-is L n w v)
      ∙ sym
      (filter-right (headed i c) (x ∷ post) (all_map (λ y q. q.head) (before-quiet i (omega arith)))
      ∙ ap (λ t. cond t (x ∷ filter (headed i c) post) (filter (headed i c) post)) own-headed
      ∙ ap (λ (l : List Note). x ∷ l) (filter-none (headed i c) (all_map (λ y q. q.head) (after-quiet i own-reach))))

-- whatever stands there
abbrev CellBack : ℕ → ℕ → List Note → ℕ → ℕ → Type 0
CellBack L n l i c = cell_notes (effect_at (written_cell l i c)) i c (tail_row_of c (suc i) (written_rows L l (suc i) n)) ≡ filter (headed i c) l

pub cell-back : (L i c n : ℕ) (ns : List Note) → Sorted ns → All Made ns → c < L → All (λ y. last y < i + suc n) ns → CellBack L n ns i c
cell-back L i c n ns s m w v = go (view i c ns)
  where
    go : View i c ns → CellBack L n ns i c
    go (nobody a) = silent-cell i c ns a (tail_row_of c (suc i) (written_rows L ns (suc i) n)) ∙ sym (filter-none (headed i c) a)
    go (somebody pre x post e h) =
        let p : x.row ≡ i = eqb-true x.row i (and_left (eqb x.row i) (eqb x.column c) h) in
        let q : x.column ≡ c = eqb-true x.column c (and_right (eqb x.row i) (eqb x.column c) h) in
        let bound : All (λ y. last y < i + suc n) (x ∷ post) = all-right pre (subst (All (λ y. last y < i + suc n)) e v) in
        let own : last x < i + suc n = first_of bound in
        subst (λ l. CellBack L n l i c) (sym e)
        (subst (λ k. CellBack L n (pre ++ (x ∷ post)) i k) q
        (subst (λ k. CellBack L n (pre ++ (x ∷ post)) k x.column) p
        (one-note pre x post (subst Sorted e s) (subst (All Made) e m) L n (omega arith) (omega arith))))
      where
        first_of : {Q : Note → Type 0} {y : Note} {l : List Note} → All Q (y ∷ l) → Q y
        first_of (one h a) = h
