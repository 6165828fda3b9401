-- The measure that a chart's lines begin with: what it takes of a text, and how it is written and minimised there, in either form.
use mathlib.Core.Path.{◌≡◌, refl, ap, sym, ◌∙◌}
use mathlib.Core.Bool.{Bool, true, false, not}
use mathlib.Core.List.{List, [], ◌∷◌, ◌++◌, map, append_assoc, append-nil}
use Prim.Native.Nat.{ℕ, zero, suc, ◌+◌, ◌-◌, ◌*◌, ◌/◌, ◌≤◌}
use native.Mathlib.Nat.{zero-mul, suc-mul, mul-div_cancel, mul-le-mul_left, mul-le-mul_right}
use native.Mathlib.Omega.{arith}
use lib.ListN.{length, take, length-append}
use lib.Seq.{take_at}
use Rattle.std.specs.Prelude.{Option, Some, None, if◌then◌else◌, sum_by}
use Rattle.std.specs.List.{All, onto_first}
use Rattle.std.proofs.lemmas.List.Sums.{sum_by-cons}
use Rattle.definitions.specs.Lists.{joined}
use Rattle.definitions.specs.Lines.{Row}
use Rattle.definitions.specs.Reduction.{reduce}
use Rattle.definitions.specs.Figures.{row_text, text_of}
use Rattle.definitions.proofs.Lists.{All as Each, none, one, all-by_index, all-from_index}
use Rattle.reader.specs.Marks.{measures_of, wide, bytes_of}
use Rattle.reduction.specs.Rows.{placed}
use Rattle.reduction.proofs.Placed.{placed-front}
use Rattle.reduction.proofs.Blocks.{joined-append}
use Rattle.reduction.proofs.Forms.{Form}
use Rattle.measures.specs.declared.RowForm.{RowForm}
use Rattle.measures.specs.declared.RowForm.TheVariants as form
use Rattle.measures.specs.Forms.{row_end, row_width, measure_end, written, ended, so_far}
use Rattle.measures.specs.Lines.{first_rows, after_first, ends_first, Fits}

-- ---- either form

-- no more stands after a row and a measure than in minimised text
pub row-short : (f : RowForm) → length (row_end f) ≤ 1
row-short form.Lines = omega arith
row-short form.BackToBack = omega arith

pub end-short : (f : RowForm) (comma : Bool) → length (measure_end f comma) ≤ (if comma then 2 else 0)
end-short form.Lines true = omega arith
end-short form.Lines false = omega arith
end-short form.BackToBack comma = omega arith

-- rows stand in blocks
written-none : (f : RowForm) → written f [] ≡ []
written-none form.Lines = refl
written-none form.BackToBack = refl

written-cons : (f : RowForm) (r : Row) (rs : List Row) → written f (r ∷ rs) ≡ (r ++ row_end f) ++ written f rs
written-cons form.Lines r rs = sym (append_assoc r (10 ∷ []) (row_text rs))
written-cons form.BackToBack r rs = ap (λ l. l ++ joined rs) (sym (append-nil r))

pub blocks : (f : RowForm) (L : ℕ) → Form (written f) (row_width f L) L
blocks f L = record { block = λ r. r ++ row_end f; is = rows; low = omega arith; size = λ r h. rw (length-append, h) refl; row = λ r h. take_at r (row_end f) L h }
  where
    rows : (rs : List Row) → written f rs ≡ joined (map (λ r. r ++ row_end f) rs)
    rows [] = written-none f
    rows (r ∷ rs) = written-cons f r rs ∙ ap (λ l. (r ++ row_end f) ++ l) (rows rs)

-- one measure more, which a `,` line ends or not
ended-snoc : (f : RowForm) (ms : List (List Row)) (m : List Row) → ended f (ms ++ (m ∷ [])) ≡ ended f ms ++ (written f m ++ measure_end f true)
ended-snoc f [] m = append-nil (written f m ++ measure_end f true)
ended-snoc f (x ∷ ms) m = ap (λ l. (written f x ++ measure_end f true) ++ l) (ended-snoc f ms m) ∙ sym (append_assoc (written f x ++ measure_end f true) (ended f ms) _)

text-snoc : (ms : List (List Row)) (m : List Row) → text_of (ms ++ (m ∷ [])) ≡ ended form.Lines ms ++ row_text m
text-snoc [] m = refl
text-snoc (x ∷ []) m = rw (append-nil, append_assoc) refl
text-snoc (x ∷ y ∷ ms) m =
    ap (λ l. row_text x ++ (44 ∷ 10 ∷ l)) (text-snoc (y ∷ ms) m)
    ∙ sym (append_assoc (row_text x ++ (44 ∷ 10 ∷ [])) (ended form.Lines (y ∷ ms)) (row_text m) ∙ append_assoc (row_text x) (44 ∷ 10 ∷ []) _)

rows-snoc : (ms : List (List Row)) (m : List Row) → joined (joined (ms ++ (m ∷ []))) ≡ ended form.BackToBack ms ++ joined m
rows-snoc [] m = rw append-nil
rows-snoc (x ∷ ms) m = joined-append x (joined (ms ++ (m ∷ []))) ∙ rw (rows-snoc ms m, append-nil) (sym (append_assoc (joined x) (ended form.BackToBack ms) (joined m)))

pub snoc : (f : RowForm) (comma : Bool) (ms : List (List Row)) (m : List Row) → so_far f (not comma) (ms ++ (m ∷ [])) ≡ (ended f ms ++ written f m) ++ measure_end f comma
snoc f true ms m = ended-snoc f ms m ∙ sym (append_assoc (ended f ms) (written f m) (measure_end f true))
snoc form.Lines false ms m = text-snoc ms m ∙ sym (append-nil (ended form.Lines ms ++ row_text m))
snoc form.BackToBack false ms m = rows-snoc ms m ∙ sym (append-nil (ended form.BackToBack ms ++ joined m))

-- ---- what lines take

measures-first : (ms : List (Option Row)) → measures_of ms ≡ first_rows ms ∷ (if ends_first ms then measures_of (after_first ms) else [])
measures-first [] = refl
measures-first (None ∷ ms) = refl
measures-first (Some r ∷ ms) = ap (onto_first r) (measures-first ms)

pub reduced-first : (ms : List (Option Row)) → map reduce (measures_of ms) ≡ reduce (first_rows ms) ∷ (if not (ends_first ms) then [] else map reduce (measures_of (after_first ms)))
reduced-first ms = ap (map reduce) (measures-first ms) ∙ ap (λ l. reduce (first_rows ms) ∷ l) (go (ends_first ms))
  where
    go : (b : Bool) → map reduce (if b then measures_of (after_first ms) else []) ≡ (if not b then [] else map reduce (measures_of (after_first ms)))
    go true = refl
    go false = refl

bytes-first : (L : ℕ) (ms : List (Option Row))
    → sum_by (bytes_of L) ms ≡ length (first_rows ms) * (L + 1) + (if ends_first ms then 2 else 0) + sum_by (bytes_of L) (after_first ms)
bytes-first L [] = omega (arith, zero-mul (L + 1))
bytes-first L (None ∷ ms) = omega (arith, sum_by-cons (bytes_of L) None ms, zero-mul (L + 1))
bytes-first L (Some r ∷ ms) = omega (arith, sum_by-cons (bytes_of L) (Some r) ms, suc-mul (length (first_rows ms)) (L + 1), bytes-first L ms)

first-wide : {L : ℕ} {ms : List (Option Row)} → Each (wide L) ms → Each (λ r. length r ≡ L) (first_rows ms) × Each (wide L) (after_first ms)
first-wide none = (none, none)
first-wide (one {a = None} h p) = (none, p)
first-wide (one {a = Some r} h p) = (one h (first-wide p).0, (first-wide p).1)

module _ {L room at : ℕ} {ms : List (Option Row)} (x : Fits L ms room at) where
  pub rows-wide : All (λ r. length r ≡ L) (first_rows ms)
  rows-wide = all-by_index (λ r. length r ≡ L) (first-wide (all-from_index (wide L) ms x.wide_rows)).0

  -- so many rows of them take no more in either form
  pub rows-room : (f : RowForm) (n : ℕ) → n ≤ length (first_rows ms) → at + n * row_width f L + (if ends_first ms then 2 else 0) + sum_by (bytes_of L) (after_first ms) ≤ room
  rows-room f n h =
      let low : L + length (row_end f) ≤ L + 1 = omega (arith, row-short f) in
      omega (arith, mul-le-mul_right (row_width f L) h, mul-le-mul_left (length (first_rows ms)) low, bytes-first L ms, x.room_for)

  pub fits-after : {at' : ℕ} → at' + sum_by (bytes_of L) (after_first ms) ≤ room → Fits L (after_first ms) room at'
  fits-after h = record { wide_rows = all-by_index (wide L) (first-wide (all-from_index (wide L) ms x.wide_rows)).1; room_for = h }

pub fits-row : {L room at : ℕ} {r : Row} {ms : List (Option Row)} → Fits L (Some r ∷ ms) room at → (f : RowForm) → (length r ≡ L) × Fits L ms room (at + row_width f L)
fits-row {L} {r = r} {ms = ms} x f = (
  x.wide_rows zero None (omega arith),
  record {
    wide_rows = λ k d h. x.wide_rows (suc k) d (omega arith);
    room_for = omega (arith, x.room_for, row-short f, sum_by-cons (bytes_of L) (Some r) ms);
  },
)

-- ---- the rows are written

-- What lines make of a text from a place on: where the rows of their first measure end, the bytes up to there, and what follows.
pub record Outcome : Type 0 where
  pub end : ℕ
  pub bytes : List ℕ
  pub lines : List (Option Row)
  pub comma : Bool

abbrev pub outcome : RowForm → ℕ → List (Option Row) → List ℕ → ℕ → Outcome
outcome f L lines text at =
    record {
      end = at + length (first_rows lines) * row_width f L;
      bytes = take at text ++ written f (first_rows lines);
      lines = after_first lines;
      comma = ends_first lines;
    }

module _ (f : RowForm) (L : ℕ) where
  -- the same once the first row is written
  pub row-written : (r : Row) (ms rest : List (Option Row)) (text after : List ℕ) (at end : ℕ) → rest ≡ Some r ∷ ms → Fits L rest (length text) at
      → after ≡ placed at (r ++ row_end f) text → length after ≡ length text → end ≡ at + row_width f L
      → (outcome f L ms after end ≡ outcome f L rest text at) × Fits L ms (length after) end
  row-written r ms rest text after at end e fits is same end_is = (rw e (made place bytes), rw (same, end_is) x.1)
    where
      x : (length r ≡ L) × Fits L ms (length text) (at + row_width f L)
      x = fits-row (rw e at fits) f

      place : end + length (first_rows ms) * row_width f L ≡ at + suc (length (first_rows ms)) * row_width f L
      place = omega (arith, end_is, suc-mul (length (first_rows ms)) (row_width f L))

      bytes : take end after ++ written f (first_rows ms) ≡ take at text ++ written f (r ∷ first_rows ms)
      bytes =
          let low : at ≤ length text = omega (arith, x.1.room_for) in
          let size : end ≡ at + length (r ++ row_end f) = rw (length-append, x.0) end_is in
          rw (written-cons, ← append_assoc) (ap (λ l. l ++ written f (first_rows ms)) (rw (size, is) (placed-front at (r ++ row_end f) text low)))

      made : {a b : ℕ} {s t : List ℕ} {l : List (Option Row)} {c : Bool} → a ≡ b → s ≡ t
          → ◌≡◌ {A = Outcome} (record { end = a; bytes = s; lines = l; comma = c }) (record { end = b; bytes = t; lines = l; comma = c })
      made p q = cc

  -- none is left of the measure
  module _ (ms rest : List (Option Row)) (text after : List ℕ) (start at : ℕ)
      (x : outcome f L rest after at ≡ outcome f L ms text start) (no_row : first_rows rest ≡ []) (some : 4 ≤ L) where
    place : at ≡ start + length (first_rows ms) * row_width f L
    place = omega (arith, ap (λ o. o.end) x, ap (λ rs. length rs * row_width f L) no_row, zero-mul (row_width f L))

    pub rows-are : (at - start) / row_width f L ≡ length (first_rows ms)
    rows-are = let n : at - start ≡ length (first_rows ms) * row_width f L = omega (arith, place) in rw n (mul-div_cancel (length (first_rows ms)) (omega arith))

    pub bytes-are : take (start + (at - start) / row_width f L * row_width f L) after ≡ take start text ++ written f (first_rows ms)
    bytes-are = rw (rows-are, ← place) (sym (append-nil (take at after)) ∙ ap (λ l. take at after ++ l) (sym (ap (written f) no_row ∙ written-none f)) ∙ ap (λ o. o.bytes) x)
