-- What is accepted has what the counts are told under: its notes and presses rise, and no column is over 9. So they hold of its 23 places.
use mathlib.Core.Path.{◌≡◌, refl, ap, ◌∙◌, subst}
use mathlib.Core.Bool.{Bool, true, false, cond, ◌&&◌, ◌||◌, not}
use mathlib.Core.List.{List, [], ◌∷◌, ◌++◌}
use Prim.Native.Nat.{ℕ, zero, suc, ◌+◌, ◌*◌, ◌/◌, ◌%◌, ◌<◌}
use native.Mathlib.Omega.{arith}
use borrow.Author.Tests.{lt-ltb}
use lib.Dec.{eqb, ltb}
use lib.ListN.{length, get_or, get_or-append}
use Rattle.std.specs.Prelude.{Result, Ok, Err}
use Rattle.std.proofs.lemmas.Bool.{or_parts}
use Rattle.std.proofs.lemmas.List.{get_or-append-add}
use Rattle.definitions.specs.Records.{word, note_of, note_of_record}
use Rattle.definitions.specs.Refusals.{refused_if}
use Rattle.definitions.specs.Written.{note_and, notes_from_record, notes_in, uneven_records, broken_records, within_lanes}
use Rattle.definitions.specs.Presses.{presses_from, presses_in, notes_rise, presses_rise, columns_fit, hits, strays, misses, hits_in, misses_in, of_columns, places_of_presses, bad_trace, press_answer}
use Rattle.definitions.specs.PressClaims.{PressesCounted, NotesAreCounted, ColumnsAreCounted, CleanTrace, TraceCounted, TraceIsCounted}
use Rattle.definitions.specs.declared.Note.{Note}
use Rattle.definitions.specs.declared.Refusal.{Refusal}
use Rattle.definitions.specs.declared.Refusal.TheVariants.{NoRecord, BadRecord, OutOfOrder, BadTrace}
use Rattle.definitions.proofs.Bools.{and_left, and_right}
use Rattle.definitions.proofs.Presses.{same-presses, columns-length, columns-get}
use Rattle.definitions.proofs.Written.Records.{note-kept}
use Rattle.definitions.proofs.Written.Reads.{not-false, passes}

-- ---- A record's column
-- a note of a record has a column below 10
abbrev pub Narrow : Result Note Refusal → Type 0
Narrow (Ok n) = n.column < 10
Narrow (Err r) = Unit {0}

note-narrow : (row t c k : ℕ) (x : Result Note Refusal) → note_of row t c k ≡ x → Narrow x
note-narrow row t c k (Ok n) e = (note-kept row t c k n e).made.column
note-narrow row t c k (Err r) e = tt

pub record-narrow : (s : List ℕ) (k : ℕ) → Narrow (note_of_record s k)
unfolding note_of_record
record-narrow s k = go (eqb (length s % 10) 0) (ltb k (length s / 10))
  where
    found : Result Note Refusal
    found = note_of (word s (k * 10)) (word s (k * 10 + 4)) (get_or s (k * 10 + 8) 0) (get_or s (k * 10 + 9) 0)

    go : (x y : Bool) → Narrow (cond x (cond y found (Err NoRecord)) (Err NoRecord))
    go true true = note-narrow (word s (k * 10)) (word s (k * 10 + 4)) (get_or s (k * 10 + 8) 0) (get_or s (k * 10 + 9) 0) found refl
    go true false = tt
    go false y = tt

and-fits : (r : Result Note Refusal) (ns : List Note) → Narrow r → within_lanes 10 ns ≡ true → within_lanes 10 (note_and r ns) ≡ true
and-fits (Ok n) ns x h = rw (lt-ltb n.column 10 x, h) refl
and-fits (Err r) ns x h = h

from-fits : (s : List ℕ) (k n : ℕ) → within_lanes 10 (notes_from_record s k n) ≡ true
from-fits s k zero = refl
from-fits s k (suc n) = and-fits (note_of_record s k) (notes_from_record s (suc k) n) (record-narrow s k) (from-fits s (suc k) n)

pub notes-fit : (s : List ℕ) → within_lanes 10 (notes_in s) ≡ true
unfolding notes_in
notes-fit s = from-fits s 0 (length s / 10)

-- ---- What is accepted
presses-length : (t : List ℕ) (k n : ℕ) → length (presses_from t k n) ≡ n
presses-length t k zero = refl
presses-length t k (suc n) = ap suc (presses-length t (suc k) n)

pub trace-length : (t : List ℕ) → length (presses_in t) ≡ length t / 5
unfolding presses_in
trace-length t = presses-length t 0 (length t / 5)

record Accepted (s t places : List ℕ) : Type 0 where
  rises : notes_rise (notes_in s) ≡ true
  narrow : columns_fit (presses_in t) ≡ true
  climbs : presses_rise (presses_in t) ≡ true
  told : places_of_presses (notes_in s) (presses_in t) ≡ places

accepted : (s t places : List ℕ) → press_answer s t ≡ Ok places → Accepted s t places
unfolding press_answer bad_trace
accepted s t places e =
    let v = places_of_presses (notes_in s) (presses_in t) in
    let right = columns_fit (presses_in t) && presses_rise (presses_in t) in
    let bad = not (eqb (length t % 5) 0) || not right in
    let c3 = refused_if bad BadTrace ∷ [] in
    let c2 = refused_if (not (notes_rise (notes_in s))) OutOfOrder ∷ c3 in
    let c1 = refused_if (broken_records s) BadRecord ∷ c2 in
    let a = passes (uneven_records s) NoRecord c1 v places e in
    let b = passes (broken_records s) BadRecord c2 v places a.1 in
    let c = passes (not (notes_rise (notes_in s))) OutOfOrder c3 v places b.1 in
    let d = passes bad BadTrace [] v places c.1 in
    let both : right ≡ true = not-false right (or_parts (not (eqb (length t % 5) 0)) (not right) d.0).1 in
    record {
      rises = not-false (notes_rise (notes_in s)) c.0;
      narrow = and_left (columns_fit (presses_in t)) (presses_rise (presses_in t)) both;
      climbs = and_right (columns_fit (presses_in t)) (presses_rise (presses_in t)) both;
      told = same d.1;
    }
  where
    same : {x y : List ℕ} → ◌≡◌ {A = Result (List ℕ) Refusal} (Ok x) (Ok y) → x ≡ y
    same e = cc

-- ---- Its 23 places
module _ (h s m : ℕ) (f g : ℕ → ℕ) (c : ℕ) (few : c < 10) where
  abbrev places : List ℕ
  places = h ∷ s ∷ m ∷ (of_columns f 0 10 ++ of_columns g 0 10)

  hits-at : get_or places (3 + c) 0 ≡ f c
  hits-at =
      let e : 3 + c ≡ suc (suc (suc c)) = omega arith in
      let z : 0 + c ≡ c = omega arith in
      ap (λ k. get_or places k 0) e
      ∙ get_or-append (of_columns f 0 10) (of_columns g 0 10) 0 c (omega (arith, columns-length f 0 10))
      ∙ columns-get f 0 10 c few
      ∙ ap f z

  misses-at : get_or places (13 + c) 0 ≡ g c
  misses-at =
      let e : 13 + c ≡ suc (suc (suc (length (of_columns f 0 10) + c))) = omega (arith, columns-length f 0 10) in
      let z : 0 + c ≡ c = omega arith in
      ap (λ k. get_or places k 0) e ∙ get_or-append-add (of_columns f 0 10) (of_columns g 0 10) c 0 ∙ columns-get g 0 10 c few ∙ ap g z

-- as the four say it of notes and presses
pub trace-counted : PressesCounted → NotesAreCounted → ColumnsAreCounted → CleanTrace → TraceIsCounted
unfolding TraceIsCounted PressesCounted NotesAreCounted ColumnsAreCounted CleanTrace places_of_presses
trace-counted presses notes columns clean s t places e =
    let a = accepted s t places e in
    let ns = notes_in s in
    let ps = presses_in t in
    let h = length (hits ns ps) in
    let r = length (strays ns ps) in
    let m = length (misses ns ps) in
    let noted = notes ns ps a.rises in
    let standing = columns ns ps (notes-fit s) a.narrow in
    let cleaned = clean ns ps a.rises a.climbs in
    subst (TraceCounted s t) a.told
    (record {
      presses = omega (arith, presses ns ps, trace-length t);
      notes = (
        omega (arith, noted.all),
        λ c few. omega (arith, hits-at h r m (hits_in ns ps) (misses_in ns ps) c few, misses-at h r m (hits_in ns ps) (misses_in ns ps) c few, noted.column c),
      );
      columns = (omega (arith, standing.hit), omega (arith, standing.missed));
      clean = (λ a b. same-presses _ _ (λ f. omega (arith, ap f (cleaned.clean a b))), λ o. let x = cleaned.only o in (omega (arith, x.0), omega (arith, x.1)));
    })
