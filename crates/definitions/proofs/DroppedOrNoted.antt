-- Each head of a text's minimised rows is listed once or has one note record, and not both.
use mathlib.Core.Path.{◌≡◌, refl, ap, ap₂, sym, ◌∙◌}
use mathlib.Core.Bool.{Bool, true, false, ◌&&◌}
use mathlib.Core.List.{List, [], ◌∷◌, ◌++◌}
use Prim.Native.Nat.{ℕ, zero, suc, ◌+◌, ◌≤◌, ◌<◌}
use native.Mathlib.Nat.{zero-add}
use native.Mathlib.Omega.{arith}
use borrow.Author.Tests.{eq-eqb, ne_eqb, lt-ltb, le-ltb}
use lib.Dec.{eqb}
use lib.ListN.{length, length-append}
use Rattle.std.specs.List.{count_by}
use Rattle.definitions.specs.Lists.{number_of_bool, joined, before, rises}
use Rattle.definitions.specs.Lines.{Row}
use Rattle.definitions.specs.Cells.{cell_of, byte_at, hold_effect}
use Rattle.definitions.specs.Tracker.{hold_at}
use Rattle.definitions.specs.Correction.{is_opening, head_count}
use Rattle.definitions.specs.Reduction.{minimised}
use Rattle.definitions.specs.Notes.{effect_of, effect_at, cell_notes, row_notes, notes_from, notes}
use Rattle.definitions.specs.Dropped.{fate_of, cell_drops, made_row, drops_from, dropped_heads}
use Rattle.definitions.specs.DroppedOrNoted.{listed, noted, has_tail, DroppedOrNoted}
use Rattle.definitions.specs.declared.Cell.{Cell}
use Rattle.definitions.specs.declared.Cell.TheVariants.{Empty, Tap, Hold, Tail, Roll, Mine, Lift, Fake, KeySound, LowerMine, LowerLift, LowerFake}
use Rattle.definitions.specs.declared.Note.{Note}
use Rattle.definitions.specs.declared.Tail.TheVariants as tail
use Rattle.definitions.specs.declared.DroppedHead.{DroppedHead}
use Rattle.definitions.specs.declared.NoteEffect.{NoteEffect}
use Rattle.definitions.specs.declared.NoteEffect.TheVariants.{Nothing, Closes, Single, Head}
use Rattle.definitions.specs.declared.Fate.{Fate}
use Rattle.definitions.specs.declared.Fate.TheVariants.{ClosedAt, DroppedBy}
use Rattle.definitions.proofs.Bools.{and-false}
use Rattle.definitions.proofs.Lists.{All, none, one, all_append, all_map, count-cons, count-append}
use Rattle.definitions.specs.Damage.{byte_in}
use Rattle.definitions.proofs.Fates.{tail_by, tail-fate}
use Rattle.definitions.proofs.Damage.Bytes.{heading, head-is, head-kind}

-- an effect that heads a note, or makes one at once
abbrev pub noting : NoteEffect → Bool
noting Nothing = false
noting Closes = false
noting (Single k) = true
noting (Head k) = true

and-true : (t : Bool) → (t && true) ≡ t
and-true true = refl
and-true false = refl

-- what stands at row a and column b, in lists of rows numbered from i
module _ (a b : ℕ) where
  abbrev here : ℕ → ℕ → Bool
  here i c = eqb i a && eqb c b

  abbrev drop_there : DroppedHead → Bool
  drop_there d = here d.row d.column

  abbrev note_there : Note → Bool
  note_there n = here n.row n.column

  -- how many cells of a row, from column c on, pass a test and stand there
  pub hits : (NoteEffect → Bool) → ℕ → ℕ → Row → ℕ
  hits w i c [] = 0
  hits w i c (x ∷ xs) = number_of_bool (here i c && w (effect_at x)) + hits w i (suc c) xs

  pub all_hits : (NoteEffect → Bool) → ℕ → List Row → ℕ
  all_hits w i [] = 0
  all_hits w i (r ∷ rs) = hits w i 0 r + all_hits w (suc i) rs

  -- a cell that makes a note or heads one is listed once or noted once
  cell-once : (x : NoteEffect) (i c : ℕ) (f : Fate)
      → listed a b (cell_drops x i c f) + noted a b (cell_notes x i c (tail_by f)) ≡ number_of_bool (here i c && noting x)
  cell-once Nothing i c f = sym (ap number_of_bool (and-false (here i c)))
  cell-once Closes i c f = sym (ap number_of_bool (and-false (here i c)))
  cell-once (Single k) i c f = omega (arith, count-cons note_there (record { row = i; tail = tail.Without; column = c; kind = k }) [], ap number_of_bool (and-true (here i c)))
  cell-once (Head k) i c (ClosedAt j) = omega (arith, count-cons note_there (record { row = i; tail = tail.Row j; column = c; kind = k }) [], ap number_of_bool (and-true (here i c)))
  cell-once (Head k) i c (DroppedBy d) = omega (arith, count-cons drop_there (record { row = i; column = c; cause = d }) [], ap number_of_bool (and-true (here i c)))

  row-once : (i c : ℕ) (xs : Row) (rs : List Row) → listed a b (made_row cell_drops i c xs rs) + noted a b (row_notes i c xs rs) ≡ hits noting i c xs
  unfolding hits
  row-once i c [] rs = refl
  row-once i c (x ∷ xs) rs =
      rw tail-fate
      (omega (
        arith,
        count-append drop_there (cell_drops (effect_at x) i c (fate_of c (suc i) rs)) (made_row cell_drops i (suc c) xs rs),
        count-append note_there (cell_notes (effect_at x) i c (tail_by (fate_of c (suc i) rs))) (row_notes i (suc c) xs rs),
        cell-once (effect_at x) i c (fate_of c (suc i) rs),
        row-once i (suc c) xs rs,
      ))

  pub all-once : (i : ℕ) (rs : List Row) → listed a b (drops_from i rs) + noted a b (notes_from i rs) ≡ all_hits noting i rs
  unfolding all_hits
  all-once i [] = refl
  all-once i (r ∷ rs) =
      omega (
        arith,
        count-append drop_there (made_row cell_drops i 0 r rs) (drops_from (suc i) rs),
        count-append note_there (row_notes i 0 r rs) (notes_from (suc i) rs),
        row-once i 0 r rs,
        all-once (suc i) rs,
      )

  -- only heads are listed
  cell-heads : (x : NoteEffect) (i c : ℕ) (f : Fate) → listed a b (cell_drops x i c f) ≤ number_of_bool (here i c && heading x)
  cell-heads Nothing i c f = omega arith
  cell-heads Closes i c f = omega arith
  cell-heads (Single k) i c f = omega arith
  cell-heads (Head k) i c (ClosedAt j) = omega arith
  cell-heads (Head k) i c (DroppedBy d) = omega (arith, count-cons drop_there (record { row = i; column = c; cause = d }) [], ap number_of_bool (and-true (here i c)))

  row-heads : (i c : ℕ) (xs : Row) (rs : List Row) → listed a b (made_row cell_drops i c xs rs) ≤ hits heading i c xs
  unfolding hits
  row-heads i c [] rs = omega arith
  row-heads i c (x ∷ xs) rs =
      rw count-append (omega (arith, cell-heads (effect_at x) i c (fate_of c (suc i) rs), row-heads i (suc c) xs rs))

  all-heads : (i : ℕ) (rs : List Row) → listed a b (drops_from i rs) ≤ all_hits heading i rs
  unfolding all_hits
  all-heads i [] = omega arith
  all-heads i (r ∷ rs) = rw count-append (omega (arith, row-heads i 0 r rs, all-heads (suc i) rs))

  module _ (w : NoteEffect → Bool) (unset : w Nothing ≡ false) where
    -- past the column, and in other rows, no cell stands there
    hits-past : (i c : ℕ) (xs : Row) → b < c → hits w i c xs ≡ 0
    unfolding hits
    hits-past i c [] h = refl
    hits-past i c (x ∷ xs) h =
        let e : number_of_bool (here i c && w (effect_at x)) ≡ 0 = rw (ne_eqb c b (λ q. omega arith), and-false (eqb i a)) refl in
        omega (arith, e, hits-past i (suc c) xs (omega arith))

    hits-other : (i c : ℕ) (xs : Row) → (i ≡ a → ⊥) → hits w i c xs ≡ 0
    unfolding hits
    hits-other i c [] h = refl
    hits-other i c (x ∷ xs) h =
        let e : number_of_bool (here i c && w (effect_at x)) ≡ 0 = rw (ne_eqb i a h) refl in
        omega (arith, e, hits-other i (suc c) xs h)

    -- a `0` is no such cell
    zero-none : number_of_bool (w (effect_at 48)) ≡ 0
    unfolding effect_at cell_of
    zero-none = ap number_of_bool unset

    hits-at : (i c k : ℕ) (xs : Row) → i ≡ a → c + k ≡ b → hits w i c xs ≡ number_of_bool (w (effect_at (byte_at k xs)))
    unfolding hits
    hits-at i c k [] p q = sym zero-none
    hits-at i c zero (x ∷ xs) p q =
        let e : number_of_bool (here i c && w (effect_at x)) ≡ number_of_bool (w (effect_at x)) = rw (eq-eqb i a p, eq-eqb c b (omega arith)) refl in
        omega (arith, e, hits-past i (suc c) xs (omega arith))
    hits-at i c (suc k) (x ∷ xs) p q =
        let e : number_of_bool (here i c && w (effect_at x)) ≡ 0 = rw (ne_eqb c b (λ s. omega arith), and-false (eqb i a)) refl in
        omega (arith, e, hits-at i (suc c) k xs p (omega arith))

    all-past : (i : ℕ) (rs : List Row) → a < i → all_hits w i rs ≡ 0
    unfolding all_hits
    all-past i [] h = refl
    all-past i (r ∷ rs) h = omega (arith, hits-other i 0 r (λ q. omega arith), all-past (suc i) rs (omega arith))

    pub all-at : (i k : ℕ) (rs : List Row) → i + k ≡ a → all_hits w i rs ≡ number_of_bool (w (effect_at (byte_in rs k b)))
    unfolding all_hits
    all-at i k [] q = sym zero-none
    all-at i zero (r ∷ rs) q = omega (arith, hits-at i 0 b r (omega arith) (omega arith), all-past (suc i) rs (omega arith))
    all-at i (suc k) (r ∷ rs) q = omega (arith, hits-other i 0 r (λ s. omega arith), all-at (suc i) k rs (omega arith))

-- ---- Their numbers

-- a cell's effects agree on whether it is a head
opening : (x : Cell) → is_opening (hold_effect x) ≡ heading (effect_of x)
opening Empty = refl
opening Tap = refl
opening Hold = refl
opening Tail = refl
opening Roll = refl
opening Mine = refl
opening Lift = refl
opening Fake = refl
opening KeySound = refl
opening LowerMine = refl
opening LowerLift = refl
opening LowerFake = refl

opening-at : (b : ℕ) → is_opening (hold_at b) ≡ heading (effect_at b)
unfolding hold_at effect_at
opening-at b = opening (cell_of b)

abbrev tailed : Note → Bool
tailed n = has_tail n.tail

cell-sum : (x : NoteEffect) (i c : ℕ) (f : Fate) → length (cell_drops x i c f) + count_by tailed (cell_notes x i c (tail_by f)) ≡ number_of_bool (heading x)
cell-sum Nothing i c f = refl
cell-sum Closes i c f = refl
cell-sum (Single k) i c f = omega (arith, count-cons tailed (record { row = i; tail = tail.Without; column = c; kind = k }) [])
cell-sum (Head k) i c (ClosedAt j) = omega (arith, count-cons tailed (record { row = i; tail = tail.Row j; column = c; kind = k }) [])
cell-sum (Head k) i c (DroppedBy d) = omega arith

row-sum : (i c : ℕ) (xs : Row) (rs : List Row)
    → length (made_row cell_drops i c xs rs) + count_by tailed (row_notes i c xs rs) ≡ count_by (λ b. is_opening (hold_at b)) xs
row-sum i c [] rs = refl
row-sum i c (x ∷ xs) rs =
    rw tail-fate
    (omega (
      arith,
      length-append (cell_drops (effect_at x) i c (fate_of c (suc i) rs)) (made_row cell_drops i (suc c) xs rs),
      count-append tailed (cell_notes (effect_at x) i c (tail_by (fate_of c (suc i) rs))) (row_notes i (suc c) xs rs),
      count-cons (λ b. is_opening (hold_at b)) x xs,
      ap number_of_bool (opening-at x),
      cell-sum (effect_at x) i c (fate_of c (suc i) rs),
      row-sum i (suc c) xs rs,
    ))

rows-sum : (i : ℕ) (rs : List Row) → length (drops_from i rs) + count_by tailed (notes_from i rs) ≡ head_count rs
rows-sum i [] = refl
rows-sum i (r ∷ rs) =
    omega (
      arith,
      length-append (made_row cell_drops i 0 r rs) (drops_from (suc i) rs),
      count-append tailed (row_notes i 0 r rs) (notes_from (suc i) rs),
      count-append (λ b. is_opening (hold_at b)) r (joined rs),
      row-sum i 0 r rs,
      rows-sum (suc i) rs,
    )

-- ---- Their order

abbrev Before : DroppedHead → DroppedHead → Type 0
Before x y = before x.row x.column y.row y.column ≡ true

data Sorted : List DroppedHead → Type 0 where
  no_more : Sorted []
  first : {x : DroppedHead} {ds : List DroppedHead} → All (Before x) ds → Sorted ds → Sorted (x ∷ ds)

sorted-rises : {ds : List DroppedHead} → Sorted ds → rises (λ d. d.row) (λ d. d.column) ds ≡ true
sorted-rises no_more = refl
sorted-rises (first none no_more) = refl
sorted-rises (first (one h a) s) = ap₂ (λ b r. b && r) h (sorted-rises s)

sorted_append : {s t : List DroppedHead} → Sorted s → Sorted t → All (λ x. All (Before x) t) s → Sorted (s ++ t)
sorted_append no_more q all = q
sorted_append (first a p) q (one h all) = first (all_append a h) (sorted_append p q all)

-- the heads of a cell stand at its place, those after it in its row further on, and those of later rows below
record Placed (i c : ℕ) (x : DroppedHead) : Type 0 where
  row : x.row ≡ i
  column : x.column ≡ c

record Onwards (i c : ℕ) (x : DroppedHead) : Type 0 where
  row : x.row ≡ i
  column : c ≤ x.column

cell-placed : (x : NoteEffect) (i c : ℕ) (f : Fate) → All (Placed i c) (cell_drops x i c f)
cell-placed Nothing i c f = none
cell-placed Closes i c f = none
cell-placed (Single k) i c f = none
cell-placed (Head k) i c (ClosedAt j) = none
cell-placed (Head k) i c (DroppedBy d) = one (record { row = refl; column = refl }) none

cell-sorted : (x : NoteEffect) (i c : ℕ) (f : Fate) → Sorted (cell_drops x i c f)
cell-sorted Nothing i c f = no_more
cell-sorted Closes i c f = no_more
cell-sorted (Single k) i c f = no_more
cell-sorted (Head k) i c (ClosedAt j) = no_more
cell-sorted (Head k) i c (DroppedBy d) = first none no_more

row-onwards : (i c : ℕ) (xs : Row) (rs : List Row) → All (Onwards i c) (made_row cell_drops i c xs rs)
row-onwards i c [] rs = none
row-onwards i c (x ∷ xs) rs =
    all_append
    (all_map (λ y h. record { row = h.row; column = omega arith }) (cell-placed (effect_at x) i c (fate_of c (suc i) rs)))
    (all_map (λ y h. record { row = h.row; column = omega arith }) (row-onwards i (suc c) xs rs))

further : (x y : DroppedHead) → x.row ≡ y.row → x.column < y.column → Before x y
further x y p q = rw (le-ltb x.row y.row (omega arith), eq-eqb x.row y.row p) (lt-ltb x.column y.column q)

below : (x y : DroppedHead) → x.row < y.row → Before x y
below x y p = rw (lt-ltb x.row y.row p) refl

row-sorted : (i c : ℕ) (xs : Row) (rs : List Row) → Sorted (made_row cell_drops i c xs rs)
row-sorted i c [] rs = no_more
row-sorted i c (x ∷ xs) rs =
    sorted_append (cell-sorted (effect_at x) i c (fate_of c (suc i) rs)) (row-sorted i (suc c) xs rs)
    (all_map (λ y h. all_map (λ z g. further y z (omega arith) (omega arith)) (row-onwards i (suc c) xs rs)) (cell-placed (effect_at x) i c (fate_of c (suc i) rs)))

rows-onwards : (i : ℕ) (rs : List Row) → All (λ x. i ≤ x.row) (drops_from i rs)
rows-onwards i [] = none
rows-onwards i (r ∷ rs) =
    all_append (all_map (λ x h. omega arith) (row-onwards i 0 r rs)) (all_map (λ x h. omega arith) (rows-onwards (suc i) rs))

rows-sorted : (i : ℕ) (rs : List Row) → Sorted (drops_from i rs)
rows-sorted i [] = no_more
rows-sorted i (r ∷ rs) =
    sorted_append (row-sorted i 0 r rs) (rows-sorted (suc i) rs)
    (all_map (λ y h. all_map (λ z g. below y z (omega arith)) (rows-onwards (suc i) rs)) (row-onwards i 0 r rs))

pub dropped-or-noted : (L : ℕ) (text : List ℕ) → DroppedOrNoted L text
unfolding dropped_heads notes
dropped-or-noted L text =
    let rows = joined (minimised L text) in
    record {
      heads = λ i c e.
          let made : noting (effect_at (byte_in rows i c)) ≡ true = ap noting (head-kind (byte_in rows i c) e) in
          omega (arith, all-once i c 0 rows, all-at i c noting refl 0 i rows (zero-add i), ap number_of_bool made);
      others = λ i c e.
          let no : heading (effect_at (byte_in rows i c)) ≡ false = sym (head-is (byte_in rows i c)) ∙ e in
          omega (arith, all-heads i c 0 rows, all-at i c heading refl 0 i rows (zero-add i), ap number_of_bool no);
      sum = omega (arith, rows-sum 0 rows);
      rising = sorted-rises (rows-sorted 0 rows);
    }
