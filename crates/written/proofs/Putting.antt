-- Notes that are put into a text without notes, one after the other.
use mathlib.Core.Path.{◌≡◌, refl, ap, ap₂, sym, ◌∙◌, subst}
use mathlib.Core.Logic.{inl}
use mathlib.Core.Bool.{Bool, true, false, cond, ◌&&◌, ◌||◌}
use mathlib.Core.List.{List, [], ◌∷◌, ◌++◌}
use Prim.Native.Nat.{ℕ, zero, suc, ◌+◌, ◌≤◌, ◌<◌}
use native.Mathlib.Omega.{arith}
use borrow.Author.Tests.{ne_eqb, leb-false, eqb-true}
use lib.Dec.{eqb, leb}
use lib.ListN.{length, take, drop, get_or, replicate}
use Rattle.std.proofs.Common.{set, length-set}
use Rattle.std.proofs.Math.Seq.{take-set-lt}
use Rattle.std.proofs.lemmas.Bool.{or_parts}
use Rattle.definitions.specs.Lines.{Row}
use Rattle.definitions.specs.Written.{letter_of, headed, tailed, last_of, written_cell, written_row, written_rows, written_text, written_length, sum_of, notes_in, none_given, some_past, some_shrink, written_measures, other_counts}
use Rattle.definitions.specs.WriterMakes.{TailMade, Made}
use Rattle.definitions.specs.declared.Kind.{Kind}
use Rattle.definitions.specs.declared.Kind.TheVariants.{Tap, Hold, Roll, Mine, Lift, Fake}
use Rattle.definitions.specs.declared.Note.{Note}
use Rattle.definitions.specs.declared.Tail.{Tail}
use Rattle.definitions.specs.declared.Tail.TheVariants as tail
use Rattle.definitions.proofs.Lists.{All, none, one, all_map}
use Rattle.definitions.proofs.Written.Notes.{After, Sorted, Around, around, reach-of, Quiet, quiet-past, past-quiet}
use Rattle.definitions.proofs.WriterMakes.{no_note}
use Rattle.definitions.proofs.ReadBack.{all-at}
use Rattle.written.specs.Apart.{Apart}
use Rattle.written.specs.Places.{row_place, with_tail, with_note, MeasureAt, PlaceOf}
use Rattle.written.specs.declared.places.Place.{Place}
use Rattle.written.proofs.Parts.{drop-next, take-next, parts-of}
use Rattle.note_records.proofs.Kept.{NoteAt}
use Rattle.written.proofs.Held.{columns}
use Rattle.written.proofs.Placing.{cell-room, written-put}

-- ---- Rows without notes
pub zero-row : (i c k : ℕ) → written_row [] i c k ≡ replicate k 48
zero-row i c zero = refl
zero-row i c (suc k) = ap (λ l. 48 ∷ l) (zero-row i (suc c) k)

pub zero-rows : (L i k : ℕ) → written_rows L [] i k ≡ replicate k (replicate L 48)
zero-rows L i zero = refl
zero-rows L i (suc k) = ap₂ {C = List Row} (λ r l. r ∷ l) (zero-row i 0 L) (zero-rows L (suc i) k)

-- ---- A note after others
tail-above : (n : Note) → Made n → (j : ℕ) → n.tail ≡ tail.Row j → n.row < j
tail-above n m j e = go n.kind (subst (TailMade n.row n.kind) e m.tail)
  where
    go : (k : Kind) → TailMade n.row k (tail.Row j) → n.row < j
    go Tap h = absurd h
    go Hold h = h.0
    go Roll h = h.0
    go Mine h = absurd h
    go Lift h = absurd h
    go Fake h = absurd h

-- those say nothing of its column from its row on
quiet-from : (s : List Note) (n : Note) → All (λ y. After y n) s → All Made s → (j : ℕ) → n.row ≤ j → All (Quiet j n.column) s
quiet-from [] n none none j q = none
quiet-from (y ∷ s) n (one a l) (one m ms) j q =
    one (quiet-past j n.column y (reach-of y.row y.kind y.tail m.tail) (λ f. let k = a.clear f in inl (omega arith))) (quiet-from s n l ms j q)

quiet-after : (i c : ℕ) (s : List Note) (n : Note) → Quiet i c n → written_cell (s ++ (n ∷ [])) i c ≡ written_cell s i c
quiet-after i c [] n q = rw (q.head, q.tail) refl
quiet-after i c (y ∷ s) n q = ap (λ b. cond (headed i c y) (letter_of y.kind) (cond (tailed i c y) 51 b)) (quiet-after i c s n q)

last-same : (i c : ℕ) (s : List Note) (x y : Note) → written_cell (x ∷ []) i c ≡ written_cell (y ∷ []) i c → written_cell (s ++ (x ∷ [])) i c ≡ written_cell (s ++ (y ∷ [])) i c
last-same i c [] x y e = e
last-same i c (z ∷ s) x y e = ap (λ b. cond (headed i c z) (letter_of z.kind) (cond (tailed i c z) 51 b)) (last-same i c s x y e)

at-column : (a b : Bool) (x y : ℕ) → (a && eqb x y) ≡ true → (a ≡ true) × (x ≡ y)
at-column true b x y e = (refl, eqb-true x y e)
at-column false b x y e = absurd (let z : ◌≡◌ {A = ℕ} 0 1 = cc in omega arith)

module _ (s : List Note) (n : Note) (quiet : (j : ℕ) → n.row ≤ j → All (Quiet j n.column) s) where
  abbrev alone : Note
  alone = record { row = n.row; tail = tail.Without; column = n.column; kind = n.kind }

  head-cell : (i c : ℕ) → written_cell (s ++ (alone ∷ [])) i c ≡ cond (eqb n.row i && eqb n.column c) (letter_of n.kind) (written_cell s i c)
  head-cell i c = go (eqb n.row i && eqb n.column c) refl
    where
      go : (t : Bool) → (eqb n.row i && eqb n.column c) ≡ t → written_cell (s ++ (alone ∷ [])) i c ≡ cond t (letter_of n.kind) (written_cell s i c)
      go true e =
          let p = at-column (eqb n.row i) true n.column c e in
          past-quiet i c s (alone ∷ []) (subst (λ k. All (Quiet i k) s) p.1 (quiet i (let q = eqb-true n.row i p.0 in omega arith)))
          ∙ ap (λ b. cond b (letter_of n.kind) 48) e
      go false e = quiet-after i c s alone (record { head = e; tail = refl })

  tail-cell : (j : ℕ) → n.row < j → (i c : ℕ)
      → written_cell (s ++ (record { row = n.row; tail = tail.Row j; column = n.column; kind = n.kind } ∷ [])) i c
      ≡ cond (eqb j i && eqb n.column c) 51 (written_cell (s ++ (alone ∷ [])) i c)
  tail-cell j h i c = go (eqb j i && eqb n.column c) refl
    where
      go : (t : Bool) → (eqb j i && eqb n.column c) ≡ t → written_cell (s ++ ((record { row = n.row; tail = tail.Row j; column = n.column; kind = n.kind }) ∷ [])) i c ≡ cond t 51 (written_cell (s ++ (alone ∷ [])) i c)
      go true e =
          let p = at-column (eqb j i) true n.column c e in
          let q : j ≡ i = eqb-true j i p.0 in
          past-quiet i c s ((record { row = n.row; tail = tail.Row j; column = n.column; kind = n.kind }) ∷ []) (subst (λ k. All (Quiet i k) s) p.1 (quiet i (omega (arith, q))))
          ∙ ap₂ (λ a b. cond (a && eqb n.column c) (letter_of n.kind) (cond b 51 48)) (ne_eqb n.row i (λ f. omega (arith, q))) e
      go false e = last-same i c s (record { row = n.row; tail = tail.Row j; column = n.column; kind = n.kind }) alone (ap (λ b. cond (eqb n.row i && eqb n.column c) (letter_of n.kind) (cond b 51 48)) e)

  pub note-put : (L : ℕ) (counts : List ℕ) → n.column < L → last_of n.row n.tail < sum_of counts → n.row ≤ last_of n.row n.tail → Made n
      → written_text L (s ++ (n ∷ [])) counts ≡ with_note L counts n (written_text L s counts)
  note-put L counts low h up made = go n.tail refl h
    where
      head : n.row < sum_of counts → written_text L (s ++ (alone ∷ [])) counts ≡ set (written_text L s counts) (row_place L counts n.row + n.column) (letter_of n.kind)
      head h = written-put L s (s ++ (alone ∷ [])) n.row n.column (letter_of n.kind) low head-cell counts h

      go : (t : Tail) → n.tail ≡ t → last_of n.row t < sum_of counts
          → written_text L (s ++ (record { row = n.row; tail = t; column = n.column; kind = n.kind } ∷ [])) counts
          ≡ with_tail L counts n.column t (set (written_text L s counts) (row_place L counts n.row + n.column) (letter_of n.kind))
      go tail.Without e h = head h
      go (tail.Row j) e h =
          let up : n.row < j = above j e in
          written-put L (s ++ (alone ∷ [])) (s ++ (record { row = n.row; tail = tail.Row j; column = n.column; kind = n.kind } ∷ [])) j n.column 51 low (tail-cell j up) counts h
          ∙ ap (λ t. set t (row_place L counts j + n.column) 51) (head (omega arith))
        where
          above : (j : ℕ) → n.tail ≡ tail.Row j → n.row < j
          above j e = tail-above n made j e

-- what is put below a length is put into the first so many bytes
take-put : (L : ℕ) (counts : List ℕ) (n : Note) (text : List ℕ) → n.column < L → last_of n.row n.tail < sum_of counts → n.row ≤ last_of n.row n.tail
    → take (written_length L counts) (with_note L counts n text) ≡ with_note L counts n (take (written_length L counts) text)
take-put L counts n text low h up = go n.tail h up
  where
    head : n.row < sum_of counts → take (written_length L counts) (set text (row_place L counts n.row + n.column) (letter_of n.kind))
        ≡ set (take (written_length L counts) text) (row_place L counts n.row + n.column) (letter_of n.kind)
    head h = take-set-lt (written_length L counts) text (row_place L counts n.row + n.column) (letter_of n.kind) (cell-room L counts n.row n.column h low)

    go : (t : Tail) → last_of n.row t < sum_of counts → n.row ≤ last_of n.row t
        → take (written_length L counts) (with_tail L counts n.column t (set text (row_place L counts n.row + n.column) (letter_of n.kind)))
        ≡ with_tail L counts n.column t (set (take (written_length L counts) text) (row_place L counts n.row + n.column) (letter_of n.kind))
    go tail.Without h up = head h
    go (tail.Row j) h up =
        take-set-lt (written_length L counts) (set text (row_place L counts n.row + n.column) (letter_of n.kind)) (row_place L counts j + n.column) 51 (cell-room L counts j n.column h low)
        ∙ ap (λ t. set t (row_place L counts j + n.column) 51) (head (omega arith))

put-length : (L : ℕ) (counts : List ℕ) (n : Note) (text : List ℕ) → length (with_note L counts n text) ≡ length text
put-length L counts n text = go n.tail
  where
    go : (t : Tail) → length (with_tail L counts n.column t (set text (row_place L counts n.row + n.column) (letter_of n.kind))) ≡ length text
    go tail.Without = length-set text (row_place L counts n.row + n.column) (letter_of n.kind)
    go (tail.Row j) =
        length-set (set text (row_place L counts n.row + n.column) (letter_of n.kind)) (row_place L counts j + n.column) 51
        ∙ length-set text (row_place L counts n.row + n.column) (letter_of n.kind)

-- ---- The loop
pub record NotesFrom (L : ℕ) (ns : List Note) (counts text₀ : List ℕ) (i : ℕ) (p : Place) (text : List ℕ) : Type 0 where
  pub stands : MeasureAt L counts p
  pub below : All (λ y. p.first ≤ y.row) (drop i ns)
  pub same_length : length text ≡ length text₀
  pub written : take (written_length L counts) text ≡ written_text L (take i ns) counts

pub notes-start : {L : ℕ} (ns : List Note) {counts text : List ℕ} {p : Place} → MeasureAt L counts p → p.first ≡ 0 → take (written_length L counts) text ≡ written_text L [] counts
    → NotesFrom L ns counts text 0 p text
notes-start {L} ns {counts} {text} {p} x e f =
    record {
      stands = x;
      below = each (drop 0 ns);
      same_length = refl;
      written = f ∙ ap (λ l. written_text L l counts) (sym (no_notes ns));
    }
  where
    each : (l : List Note) → All (λ y. p.first ≤ y.row) l
    each [] = none
    each (y ∷ l) = one (omega (arith, e)) (each l)

    no_notes : (l : List Note) → take 0 l ≡ []
    no_notes [] = refl
    no_notes (y ∷ l) = refl

module _ {L : ℕ} {ns : List Note} {counts text₀ : List ℕ} {i : ℕ} {p : Place} {text : List ℕ} (x : NotesFrom L ns counts text₀ i p text) (n : Note) (found : NoteAt ns i n) where
  here : drop i ns ≡ n ∷ drop (i + 1) ns
  here = drop-next ns i no_note found.within ∙ ap (λ y. y ∷ drop (i + 1) ns) (sym found.same)

  pub next-after : p.first ≤ n.row
  next-after = go (subst (All (λ y. p.first ≤ y.row)) here x.below)
    where
      go : All (λ y. p.first ≤ y.row) (n ∷ drop (i + 1) ns) → p.first ≤ n.row
      go (one q a) = q

  pub next-reach : n.row ≤ last_of n.row n.tail
  next-reach = reach-of n.row n.kind n.tail found.made.tail

  pub notes-next : Sorted ns → All Made (take i ns) → n.column < L → last_of n.row n.tail < sum_of counts → (p' : Place) → PlaceOf L counts n.row p'
      → (text' : List ℕ) → text' ≡ with_note L counts n text → NotesFrom L ns counts text₀ (i + 1) p' text'
  notes-next sorted made low h p' q text' e =
      record {
        stands = q.stands;
        below = all_map (λ y a. omega (arith, a.row, q.after)) around-it.later;
        same_length = ap length e ∙ put-length L counts n text ∙ x.same_length;
        written =
            ap (take (written_length L counts)) e
            ∙ take-put L counts n text low h next-reach
            ∙ ap (with_note L counts n) x.written
            ∙ sym (note-put (take i ns) n (quiet-from (take i ns) n around-it.earlier made) L counts low h next-reach found.made)
            ∙ ap (λ l. written_text L l counts) (sym (take-next ns i no_note found.within ∙ ap (λ y. take i ns ++ (y ∷ [])) (sym found.same)));
      }
    where
      around-it : Around (take i ns) n (drop (i + 1) ns)
      around-it = around (take i ns) n (drop (i + 1) ns) (subst Sorted (sym (parts-of ns i) ∙ ap (λ l. take i ns ++ l) here) sorted)

pub notes-end : {L : ℕ} {ns : List Note} {counts text₀ : List ℕ} {i : ℕ} {p : Place} {text : List ℕ} → NotesFrom L ns counts text₀ i p text → length ns ≤ i
    → take (written_length L counts) text ≡ written_text L ns counts
notes-end {L} {ns} {counts} {text₀} {i} x h = x.written ∙ ap (λ l. written_text L l counts) (take-all ns i h)
  where
    take-all : (l : List Note) (i : ℕ) → length l ≤ i → take i l ≡ l
    take-all [] zero h = refl
    take-all [] (suc i) h = refl
    take-all (x ∷ l) zero h = absurd (omega arith)
    take-all (x ∷ l) (suc i) h = ap (λ s. x ∷ s) (take-all l i (omega arith))

-- ---- What 13 and 15 let pass
pub note-column : {L : ℕ} {s : List ℕ} → Apart L s → (i : ℕ) (n : Note) → NoteAt (notes_in s) i n → n.column < L
note-column {L} {s} o i n x = subst (λ y. y.column < L) (sym x.same) (all-at (notes_in s) no_note i (columns o.rising) x.within)

pub note-within : (L : ℕ) (ns : List Note) (counts : List ℕ) → other_counts L ns counts ≡ false → (i : ℕ) (n : Note) → NoteAt ns i n → last_of n.row n.tail < sum_of counts
unfolding other_counts
note-within L ns counts e i n x =
    subst (λ y. last_of y.row y.tail < sum_of counts) (sym x.same)
    (at ns i x.within (or_parts (some_past (sum_of counts) ns) (some_shrink (written_measures L ns counts)) (or_parts (none_given counts) (some_past (sum_of counts) ns || some_shrink (written_measures L ns counts)) e).1).0)
  where
    at : (l : List Note) (i : ℕ) → i < length l → some_past (sum_of counts) l ≡ false → last_of (get_or l i no_note).row (get_or l i no_note).tail < sum_of counts
    at [] i h e = absurd (omega arith)
    at (y ∷ l) zero h e = leb-false (sum_of counts) (last_of y.row y.tail) (or_parts (leb (sum_of counts) (last_of y.row y.tail)) (some_past (sum_of counts) l) e).0
    at (y ∷ l) (suc i) h e = at l i (omega arith) (or_parts (leb (sum_of counts) (last_of y.row y.tail)) (some_past (sum_of counts) l) e).1
