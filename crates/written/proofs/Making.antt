-- The notes of one measure after the other, and whether one stands or ends in a second row.
use mathlib.Core.Path.{◌≡◌, refl, ap, ap₂, sym, ◌∙◌, subst}
use mathlib.Core.Logic.{◌⊎◌, inl, inr}
use mathlib.Core.Bool.{Bool, true, false, ◌&&◌, ◌||◌, true≢false}
use mathlib.Core.List.{List, [], ◌∷◌, ◌++◌}
use Prim.Native.Nat.{ℕ, zero, suc, ◌+◌, ◌≤◌, ◌<◌}
use native.Mathlib.Omega.{arith}
use borrow.Author.Tests.{eqb-true, eqb-false, eq-eqb, ne_eqb}
use lib.Dec.{eqb}
use lib.ListN.{length, take, drop, get_or, replicate}
use lib.Seq.{get_or-set_same, get_or-set_other}
use Rattle.std.proofs.Common.{set, length-set}
use Rattle.std.proofs.lemmas.List.Folds.{list_any-append}
use Rattle.std.specs.List.{list_any}
use Rattle.definitions.specs.Sizes.{row_numbers_bound}
use Rattle.definitions.specs.Records.{number_of_tail}
use Rattle.definitions.specs.WriterMakes.{Made}
use Rattle.definitions.specs.Written.{ends_at, tailed, last_of}
use Rattle.definitions.specs.WrittenBack.{some_tailed}
use Rattle.definitions.specs.declared.Note.{Note}
use Rattle.definitions.specs.declared.Tail.{Tail}
use Rattle.definitions.specs.declared.Tail.TheVariants as tail
use Rattle.definitions.proofs.Bools.{and_left}
use Rattle.definitions.proofs.Lists.{All, none, one, all_append, all_map, all-by_index, all-from_index}
use Rattle.definitions.proofs.Written.Notes.{After, Sorted, Around, around, reach-of, Quiet, quiet-past}
use Rattle.written.specs.Standing.{second_row, note_in_second, Standing, StandsFirst}
use Rattle.written.specs.declared.rows.NotesAbove.{NotesAbove}
use Rattle.definitions.proofs.WriterMakes.{no_note}
use Rattle.written.proofs.Parts.{drop-next, take-next, drop-end, parts-of}
use Rattle.note_records.proofs.Kept.{NoteAt}
use Rattle.written.proofs.Bare.{same-bool, or-parts, or-right, both, second-true, tail-number}

-- ---- Tails of some notes and then others
some_tailed-append : (i c : ℕ) (s t : List Note) → some_tailed i c (s ++ t) ≡ (some_tailed i c s || some_tailed i c t)
some_tailed-append i c [] t = refl
some_tailed-append i c (y ∷ s) t = ap (λ b. tailed i c y || b) (some_tailed-append i c s t) ∙ or-assoc (tailed i c y) (some_tailed i c s) (some_tailed i c t)
  where
    or-assoc : (a b d : Bool) → (a || (b || d)) ≡ ((a || b) || d)
    or-assoc true b d = refl
    or-assoc false b d = refl

none-tailed : (i c : ℕ) {s : List Note} → All (Quiet i c) s → some_tailed i c s ≡ false
none-tailed i c none = refl
none-tailed i c (one q a) = ap₂ (λ b d. b || d) q.tail (none-tailed i c a)

-- a note in another column says nothing
other-column : (i c : ℕ) (y : Note) → (c ≡ y.column → ⊥) → Quiet i c y
other-column i c y f =
    let e : eqb y.column c ≡ false = ne_eqb y.column c (λ q. f (sym q)) in
    record { head = ap (λ b. eqb y.row i && b) e ∙ none_of (eqb y.row i); tail = ap (λ b. ends_at i y.tail && b) e ∙ none_of (ends_at i y.tail) }
  where
    none_of : (b : Bool) → (b && false) ≡ false
    none_of true = refl
    none_of false = refl

-- ---- The tails of the notes above a measure
-- one of a list of numbers passes a test
any-at : (p : ℕ → Bool) (l : List ℕ) (c : ℕ) → c < length l → p (get_or l c 0) ≡ true → list_any p l ≡ true
any-at p [] c h e = absurd (omega arith)
any-at p (x ∷ l) zero h e = ap (λ b. b || list_any p l) e
any-at p (x ∷ l) (suc c) h e = or-right (p x) (list_any p l) (any-at p l c (omega arith) e)

-- a place of one
record Found (p : ℕ → Bool) (l : List ℕ) : Type 0 where
  place : ℕ
  low : place < length l
  passes : p (get_or l place 0) ≡ true

found : (p : ℕ → Bool) (l : List ℕ) → list_any p l ≡ true → Found p l
found p [] e = absurd (true≢false (sym e))
found p (x ∷ l) e = go (p x) refl e (λ q. found p l q)
  where
    go : (t : Bool) → p x ≡ t → (t || list_any p l) ≡ true → (list_any p l ≡ true → Found p l) → Found p (x ∷ l)
    go true f e r = record { place = 0; low = omega arith; passes = f }
    go false f e r = let k = r e in record { place = suc k.place; low = omega (arith, k.low); passes = k.passes }

-- of notes above row i: one of a row j and column c ends in a second row
record Ends (i e : ℕ) (l : List Note) : Type 0 where
  row : ℕ
  column : ℕ
  low : column < 10
  second : second_row i e row ≡ true
  tail : some_tailed row column l ≡ true

module _ (i e : ℕ) (low : e ≤ 4194304) where
  ends-of : (l : List Note) → All (λ y. y.row < i) l → All Made l → list_any (note_in_second i e) l ≡ true → Ends i e l
  ends-of [] none none h = absurd (true≢false (sym h))
  ends-of (y ∷ l) (one r a) (one m ms) h = go (or-parts (note_in_second i e y) (list_any (note_in_second i e) l) h) (λ q. ends-of l a ms q)
    where
      head : (t : Tail) → y.tail ≡ t → second_row i e (number_of_tail t) ≡ true → Ends i e (y ∷ l)
      head tail.Without f s = let k = (second-true i e 4294967295 s).before in absurd (omega arith)
      head (tail.Row j) f s =
          record {
            row = j;
            column = y.column;
            low = m.column;
            second = s;
            tail = ap (λ b. b || some_tailed j y.column l) (both (ap (ends_at j) f ∙ eq-eqb j j refl) (eq-eqb y.column y.column refl));
          }

      own : (second_row i e y.row ≡ true) ⊎ (second_row i e (number_of_tail y.tail) ≡ true) → Ends i e (y ∷ l)
      own (inl s) = let k = (second-true i e y.row s).from in absurd (omega arith)
      own (inr s) = head y.tail refl s

      go : (note_in_second i e y ≡ true) ⊎ (list_any (note_in_second i e) l ≡ true) → (list_any (note_in_second i e) l ≡ true → Ends i e l) → Ends i e (y ∷ l)
      go (inl s) r = own (or-parts (second_row i e y.row) (second_row i e (number_of_tail y.tail)) s)
      go (inr s) r =
          let k = r s in
          record { row = k.row; column = k.column; low = k.low; second = k.second; tail = or-right (tailed k.row k.column y) (some_tailed k.row k.column l) k.tail }

  in-second : (j c : ℕ) → second_row i e j ≡ true → (l : List Note) → some_tailed j c l ≡ true → list_any (note_in_second i e) l ≡ true
  in-second j c s [] h = absurd (true≢false (sym h))
  in-second j c s (y ∷ l) h = go (or-parts (tailed j c y) (some_tailed j c l) h) (λ q. in-second j c s l q)
    where
      tail_is : (t : Tail) → ends_at j t ≡ true → second_row i e (number_of_tail t) ≡ true
      tail_is tail.Without f = absurd (true≢false (sym f))
      tail_is (tail.Row r) f = ap (second_row i e) (eqb-true r j f) ∙ s

      go : (tailed j c y ≡ true) ⊎ (some_tailed j c l ≡ true) → (some_tailed j c l ≡ true → list_any (note_in_second i e) l ≡ true) → list_any (note_in_second i e) (y ∷ l) ≡ true
      go (inl q) r = ap (λ b. b || list_any (note_in_second i e) l) (or-right (second_row i e y.row) (second_row i e (number_of_tail y.tail)) (tail_is y.tail (and_left (ends_at j y.tail) (eqb y.column c) q)))
      go (inr q) r = or-right (note_in_second i e y) (list_any (note_in_second i e) l) (r q)

  pub tails-second : {ns : List Note} {w : NotesAbove} → Standing ns i w → length w.tails ≡ 10 → All Made (take w.next ns)
      → list_any (second_row i e) w.tails ≡ list_any (note_in_second i e) (take w.next ns)
  tails-second {ns} {w} x width made = same-bool (list_any (second_row i e) w.tails) (list_any (note_in_second i e) (take w.next ns)) to from
    where
      to : list_any (second_row i e) w.tails ≡ true → list_any (note_in_second i e) (take w.next ns) ≡ true
      to h =
          let k = found (second_row i e) w.tails h in
          let j = get_or w.tails k.place 0 in
          let s = second-true i e j k.passes in
          in-second j k.place k.passes (take w.next ns)
          (sym (x.tails k.place j (omega (arith, k.low, width)) s.from (omega (arith, s.before))) ∙ eq-eqb j j refl)

      from : list_any (note_in_second i e) (take w.next ns) ≡ true → list_any (second_row i e) w.tails ≡ true
      from h =
          let k = ends-of (take w.next ns) (all-from_index (λ y. y.row < i) (take w.next ns) x.above) made h in
          let s = second-true i e k.row k.second in
          any-at (second_row i e) w.tails k.column (omega (arith, k.low, width))
          (ap (second_row i e) (eqb-true (get_or w.tails k.column 0) k.row (x.tails k.column k.row k.low s.from (omega (arith, s.before)) ∙ k.tail)) ∙ k.second)

-- ---- The notes of a measure
pub record Taking (ns : List Note) (i e : ℕ) (w : NotesAbove) (seen : Bool) : Type 0 where
  pub within : w.next ≤ length ns
  pub width : length w.tails ≡ 10
  above : All (λ y. y.row < e) (take w.next ns)
  below : All (λ y. i ≤ y.row) (drop w.next ns)
  tails : (c j : ℕ) → c < 10 → e ≤ j → j < row_numbers_bound → eqb (get_or w.tails c 0) j ≡ some_tailed j c (take w.next ns)
  so_far : seen ≡ list_any (note_in_second i e) (take w.next ns)

pub take-start : {ns : List Note} {i e : ℕ} {w : NotesAbove} → Standing ns i w → length w.tails ≡ 10 → i ≤ e → e ≤ 4194304 → All Made (take w.next ns)
    → (seen : Bool) → seen ≡ list_any (second_row i e) w.tails → Taking ns i e w seen
take-start {ns} {i} {e} {w} x width h low made seen f =
    record {
      within = x.within;
      width = width;
      above = all_map (λ y q. omega arith) (all-from_index (λ y. y.row < i) (take w.next ns) x.above);
      below = all-from_index (λ y. i ≤ y.row) (drop w.next ns) x.below;
      tails = λ c j a b d. x.tails c j a (omega arith) d;
      so_far = f ∙ tails-second i e low x width made;
    }

module _ {ns : List Note} {i e : ℕ} {w : NotesAbove} {seen : Bool} (x : Taking ns i e w seen) (sorted : Sorted ns) (n : Note) (at : NoteAt ns w.next n) where
  here : drop w.next ns ≡ n ∷ drop (w.next + 1) ns
  here = drop-next ns w.next no_note at.within ∙ ap (λ y. y ∷ drop (w.next + 1) ns) (sym at.same)

  more : take (w.next + 1) ns ≡ take w.next ns ++ (n ∷ [])
  more = take-next ns w.next no_note at.within ∙ ap (λ y. take w.next ns ++ (y ∷ [])) (sym at.same)

  around-it : Around (take w.next ns) n (drop (w.next + 1) ns)
  around-it = around (take w.next ns) n (drop (w.next + 1) ns) (subst Sorted (sym (parts-of ns w.next) ∙ ap (λ l. take w.next ns ++ l) here) sorted)

  from-row : i ≤ n.row
  from-row = go (subst (All (λ y. i ≤ y.row)) here x.below)
    where
      go : All (λ y. i ≤ y.row) (n ∷ drop (w.next + 1) ns) → i ≤ n.row
      go (one q a) = q

  module _ (before : n.row < e) (all_made : All Made (take w.next ns)) where
    -- the earlier notes say nothing of its column from its row on
    quiet : (j : ℕ) → n.row ≤ j → All (Quiet j n.column) (take w.next ns)
    quiet j q = go around-it.earlier all_made
      where
        go : {l : List Note} → All (λ y. After y n) l → All Made l → All (Quiet j n.column) l
        go none none = none
        go (one {a = y} a l) (one m ms) =
            one (quiet-past j n.column y (reach-of y.row y.kind y.tail m.tail) (λ f. let k = a.clear f in inl (omega arith))) (go l ms)

    pub take-next-note : (w' : NotesAbove) → w'.next ≡ w.next + 1 → w'.tails ≡ set w.tails n.column (number_of_tail n.tail)
        → (seen' : Bool) → seen' ≡ (seen || note_in_second i e n) → Taking ns i e w' seen'
    take-next-note w' f g seen' s =
        record {
          within = omega (arith, at.within, f);
          width = ap length g ∙ length-set w.tails n.column (number_of_tail n.tail) ∙ x.width;
          above = subst (All (λ y. y.row < e)) (sym taken) (all_append x.above (one before none));
          below = subst (λ k. All (λ y. i ≤ y.row) (drop k ns)) (sym f) (all_map (λ y a. omega (arith, a.row, from-row)) around-it.later);
          tails = λ c j a b q. ap (λ l. eqb (get_or l c 0) j) g ∙ tail_at c j a b q (eqb c n.column) refl ∙ ap (some_tailed j c) (sym taken);
          so_far =
              s
              ∙ ap (λ b. b || note_in_second i e n) x.so_far
              ∙ ap (λ b. list_any (note_in_second i e) (take w.next ns) || b) (sym (or-none (note_in_second i e n)))
              ∙ sym (list_any-append (note_in_second i e) (take w.next ns) (n ∷ []))
              ∙ ap (list_any (note_in_second i e)) (sym taken);
        }
      where
        or-none : (b : Bool) → (b || false) ≡ b
        or-none true = refl
        or-none false = refl

        taken : take w'.next ns ≡ take w.next ns ++ (n ∷ [])
        taken = ap (λ k. take k ns) f ∙ more

        tail_at : (c j : ℕ) → c < 10 → e ≤ j → j < row_numbers_bound → (t : Bool) → eqb c n.column ≡ t
            → eqb (get_or (set w.tails n.column (number_of_tail n.tail)) c 0) j ≡ some_tailed j c (take w.next ns ++ (n ∷ []))
        tail_at c j a b q true f =
            let g : c ≡ n.column = eqb-true c n.column f in
            ap (λ k. eqb (get_or (set w.tails n.column (number_of_tail n.tail)) k 0) j) g
            ∙ ap (λ k. eqb k j) (get_or-set_same w.tails n.column (number_of_tail n.tail) 0 (omega (arith, at.made.column, x.width)))
            ∙ tail-number n.tail j q
            ∙ sym (some_tailed-append j c (take w.next ns) (n ∷ [])
            ∙ ap₂ (λ u v. u || v) (ap (λ k. some_tailed j k (take w.next ns)) g ∙ none-tailed j n.column (quiet j (omega arith)))
            (ap (λ k. (ends_at j n.tail && k) || false) (eq-eqb n.column c (sym g)) ∙ plain (ends_at j n.tail)))
          where
            plain : (b : Bool) → ((b && true) || false) ≡ b
            plain true = refl
            plain false = refl
        tail_at c j a b q false f =
            ap (λ k. eqb k j) (get_or-set_other w.tails n.column c (number_of_tail n.tail) 0 (eqb-false c n.column f))
            ∙ x.tails c j a b q
            ∙ sym (some_tailed-append j c (take w.next ns) (n ∷ [])
            ∙ ap (λ v. some_tailed j c (take w.next ns) || v) (ap (λ v. v || false) (other-column j c n (eqb-false c n.column f)).tail)
            ∙ or-none (some_tailed j c (take w.next ns)))

  -- a note that stands past the measure, and all after it, do so
  pub take-past : e ≤ n.row → All (λ y. e ≤ y.row) (drop w.next ns)
  take-past q = subst (All (λ y. e ≤ y.row)) (sym here) (one q (all_map (λ y a. omega (arith, a.row, q)) around-it.later))

pub take-all-past : (ns : List Note) (e k : ℕ) → length ns ≤ k → All (λ y. e ≤ y.row) (drop k ns)
take-all-past ns e k h = subst (All (λ y. e ≤ y.row)) (sym (drop-end ns k h)) none

module _ {ns : List Note} {i e : ℕ} {w : NotesAbove} {seen : Bool} (x : Taking ns i e w seen) (made : All Made ns) (past : All (λ y. e ≤ y.row) (drop w.next ns)) where
  pub take-standing : Standing ns e w
  take-standing =
      record {
        within = x.within;
        above = all-by_index (λ y. y.row < e) x.above;
        below = all-by_index (λ y. e ≤ y.row) past;
        tails = x.tails;
      }

  pub take-seen : seen ≡ list_any (note_in_second i e) ns
  take-seen =
      x.so_far
      ∙ or-late (list_any (note_in_second i e) (take w.next ns)) (list_any (note_in_second i e) (drop w.next ns)) (late past (part w.next ns made))
      ∙ sym (list_any-append (note_in_second i e) (take w.next ns) (drop w.next ns))
      ∙ ap (list_any (note_in_second i e)) (parts-of ns w.next)
    where
      or-late : (a b : Bool) → b ≡ false → a ≡ (a || b)
      or-late true b f = refl
      or-late false b f = sym f

      part : (k : ℕ) (l : List Note) → All Made l → All Made (drop k l)
      part zero [] none = none
      part (suc k) [] none = none
      part zero (y ∷ l) a = a
      part (suc k) (y ∷ l) (one m a) = part k l a

      off : (j : ℕ) → e ≤ j → second_row i e j ≡ false
      off j h = go (second_row i e j) refl
        where
          go : (t : Bool) → second_row i e j ≡ t → t ≡ false
          go false f = refl
          go true f = let k = (second-true i e j f).before in absurd (omega arith)

      far : (r : ℕ) (t : Tail) → r ≤ last_of r t → e ≤ r → e ≤ 4294967295 → e ≤ number_of_tail t
      far r tail.Without p q l = l
      far r (tail.Row j) p q l = omega arith

      late : {l : List Note} → All (λ y. e ≤ y.row) l → All Made l → list_any (note_in_second i e) l ≡ false
      late none none = refl
      late (one {a = y} q a) (one m ms) =
          let low : e ≤ 4294967295 = omega (arith, q, m.row) in
          ap₂ (λ s t. s || t) (ap₂ (λ s t. s || t) (off y.row q) (off (number_of_tail y.tail) (far y.row y.tail (reach-of y.row y.kind y.tail m.tail) q low))) (late a ms)

pub stands-first : (w : NotesAbove) → w.next ≡ 0 → w.tails ≡ replicate 10 4294967295 → StandsFirst w
stands-first w e f ns =
    record {
      within = omega (arith, e);
      above = all-by_index (λ y. y.row < 0) (subst (λ k. All (λ y. y.row < 0) (take k ns)) (sym e) (empty ns));
      below = all-by_index (λ y. 0 ≤ y.row) (subst (λ k. All (λ y. 0 ≤ y.row) (drop k ns)) (sym e) (each (drop 0 ns)));
      tails = λ c j a b q.
          ap (λ l. eqb (get_or l c 0) j) f
          ∙ ap (λ k. eqb k j) (far 10 c a)
          ∙ ne_eqb 4294967295 j (λ z. omega arith)
          ∙ sym (ap (λ k. some_tailed j c (take k ns)) e ∙ nothing j c ns);
    }
  where
    empty : (l : List Note) → All (λ y. y.row < 0) (take 0 l)
    empty [] = none
    empty (y ∷ l) = none

    each : (l : List Note) → All (λ y. 0 ≤ y.row) l
    each [] = none
    each (y ∷ l) = one (omega arith) (each l)

    far : (n c : ℕ) → c < n → ◌≡◌ {A = ℕ} (get_or (replicate n 4294967295) c 0) 4294967295
    far zero c h = absurd (omega arith)
    far (suc n) zero h = refl
    far (suc n) (suc c) h = far n c (omega arith)

    nothing : (j c : ℕ) (l : List Note) → some_tailed j c (take 0 l) ≡ false
    nothing j c [] = refl
    nothing j c (y ∷ l) = refl
