-- A loop over the rows of minimised text read back, as `back::back_rows` gives them: which have come, how few they are for a text of so many bytes, and
-- that they are all at the end.
use mathlib.Core.Path.{◌≡◌, refl, ap, sym, ◌∙◌, subst}
use mathlib.Core.Logic.{⊎_elim}
use mathlib.Core.Bool.{Bool, true, false, ◌&&◌, not}
use mathlib.Core.List.{List, [], ◌∷◌, ◌++◌, map, map-append, append_assoc, append-nil}
use Prim.Native.Nat.{ℕ, ◌+◌, ◌*◌, ◌<◌, ◌≤◌}
use native.Mathlib.Nat.{le_trans, le_of_eq, mul_comm, le-div_iff_mul-le, mul-le-mul_right}
use native.Mathlib.Omega.{arith}
use borrow.Author.Tests.{lt-leb}
use lib.ListN.{length, get_or, take, length-append}
use lib.Seq.{length-take-le, get_or-append_seam}
use Rattle.std.specs.Borrow.{Bor}
use Rattle.definitions.specs.Lists.{only_if, up_to, after}
use Rattle.definitions.specs.Lanes.{most_rows_in}
use Rattle.definitions.specs.Lines.{Row, cut, is_row_line}
use Rattle.definitions.specs.ReadBack.{without_cr, begins_mark, back_row, back_rows, rows_read_back}
use Rattle.definitions.proofs.Bools.{and_left}
use Rattle.definitions.proofs.Lists.{All, none, one, all_append, all_map, after-cons}
use Rattle.definitions.proofs.ChartRows.{test-length}
use Rattle.lines.specs.Lines.{first_line}
use Rattle.reader.proofs.Cuts.{cut-below, lines_bytes, cut-bytes}
use Rattle.reader.proofs.BackReading.{trim-less}

-- ---- the first line of a text, and what follows it

-- an empty line is no row
none-row : (L : ℕ) → 0 < L → back_row L [] ≡ []
unfolding is_row_line
none-row L h = rw (lt-leb L 0 h)

pub rows-none : (L : ℕ) → 0 < L → rows_read_back L [] ≡ []
unfolding rows_read_back
rows-none L h = rw (none-row L h)

pub rows-first : (L : ℕ) (s : List ℕ) → 0 < L → rows_read_back L s ≡ back_row L (without_cr (first_line s)) ++ rows_read_back L (after 10 s)
unfolding rows_read_back
rows-first L s h =
    let b = cut-below s in
    let below : back_rows L b.below ≡ back_rows L (cut (after 10 s)) =
    ⊎_elim (λ e. ap (back_rows L) e) (λ e. rw (e.0, e.1, none-row L h)) b.same in
    rw (b.is_cut, below)

-- an empty line in front
pub rows-empty : (L : ℕ) (s : List ℕ) → 0 < L → rows_read_back L (10 ∷ s) ≡ rows_read_back L s
unfolding first_line up_to
rows-empty L s h = rows-first L (10 ∷ s) h ∙ rw (none-row L h, after-cons)

-- ---- rows have L bytes, and are few for a text of so many

pub row-long : (L : ℕ) (l : List ℕ) → (is_row_line L l && not (begins_mark l)) ≡ true → L ≤ length l
row-long L l e = test-length L l (and_left (is_row_line L l) (not (begins_mark l)) e)

back-wide : (L : ℕ) (ls : List (List ℕ)) → All (λ (r : Row). length r ≡ L) (back_rows L ls)
back-wide L [] = none
back-wide L (l ∷ ls) = all_append (go (is_row_line L bare && not (begins_mark bare)) refl) (back-wide L ls)
  where
    bare : List ℕ
    bare = without_cr l

    go : (t : Bool) → (is_row_line L bare && not (begins_mark bare)) ≡ t → All (λ (r : Row). length r ≡ L) (only_if t (take L bare ∷ []))
    go true e = one {a = take L bare} (length-take-le L bare (row-long L bare e)) none
    go false e = none

back-bytes : (L : ℕ) (ls : List (List ℕ)) → (L + 1) * length (back_rows L ls) ≤ lines_bytes ls
back-bytes L [] = omega arith
back-bytes L (l ∷ ls) = go (is_row_line L (without_cr l) && not (begins_mark (without_cr l))) refl (back-bytes L ls)
  where
    go : (t : Bool) → (is_row_line L (without_cr l) && not (begins_mark (without_cr l))) ≡ t → (L + 1) * length (back_rows L ls) ≤ lines_bytes ls
        → (L + 1) * length (only_if t (take L (without_cr l) ∷ []) ++ back_rows L ls) ≤ lines_bytes (l ∷ ls)
    go true e h = omega (arith, row-long L (without_cr l) e, trim-less l)
    go false e h = omega arith

pub rows-wide : (L : ℕ) (text : List ℕ) → All (λ (r : Row). length r ≡ L) (rows_read_back L text)
unfolding rows_read_back
rows-wide L text = back-wide L (cut text)

rows-bytes : (L : ℕ) (text : List ℕ) → (L + 1) * length (rows_read_back L text) ≤ length text + 1
unfolding rows_read_back
rows-bytes L text = le_trans (back-bytes L (cut text)) (le_of_eq (cut-bytes text))

-- ---- the loop

-- the rows that have come
abbrev pub came : List (Bor Row) → List Row
came ls = map (λ x. x.now) ls

came-more : (ls : List (Bor Row)) (x : Bor Row) → came (ls ++ (x ∷ [])) ≡ came ls ++ (x.now ∷ [])
came-more ls x = map-append (λ x. x.now) ls (x ∷ [])

-- Rows of a text have come, with `rest` left to come. Few have, and an entry for each row of the text has room in a slice of `most_rows_in`.
pub record BackCome (L : ℕ) (text : List ℕ) (rows rest : List Row) : Type 0 where
  pub lanes : 4 ≤ L
  pub rows_are : rows_read_back L text ≡ rows ++ rest
  pub few : 5 * length rows ≤ length text + 1
  pub most : length (rows_read_back L text) ≤ most_rows_in L (length text)

all-most : (L n len : ℕ) → (L + 1) * n ≤ len + 1 → n ≤ most_rows_in L len
unfolding most_rows_in
all-most L n len h = (le-div_iff_mul-le {k = L + 1} (omega arith)).1 (le_trans (le_of_eq (mul_comm n (L + 1))) h)

back-come : (L : ℕ) (text : List ℕ) (rows rest : List Row) → 4 ≤ L → rows_read_back L text ≡ rows ++ rest → BackCome L text rows rest
back-come L text rows rest w parts =
    let five : 5 ≤ L + 1 = omega arith in
    let all = le_trans (mul-le-mul_right (length (rows_read_back L text)) five) (rows-bytes L text) in
    record {
      lanes = w;
      rows_are = parts;
      few = omega (arith, all, ap length parts, length-append rows rest);
      most = all-most L (length (rows_read_back L text)) (length text) (rows-bytes L text);
    }

-- A pass holds K of the rows that have come.
pub record BackHolds (L : ℕ) (text : List ℕ) (K : List Row → Type 0) (ls : List (Bor Row)) (rest : List Row) : Type 0 where
  pub come : BackCome L text (came ls) rest
  pub held : K (came ls)

pub back-start : (L : ℕ) (text : List ℕ) {K : List Row → Type 0} {rest : List Row} → rest ≡ rows_read_back L text → 4 ≤ L → K [] → BackHolds L text K [] rest
back-start L text {rest = rest} e w k = record { come = back-come L text [] rest w (sym e); held = k }

-- one row more has come
pub back-more : {L : ℕ} {text : List ℕ} {K K' : List Row → Type 0} {ls : List (Bor Row)} {rest below : List Row} → BackHolds L text K ls rest → (row : Bor Row) → rest ≡ row.now ∷ below
    → K' (came ls ++ (row.now ∷ [])) → BackHolds L text K' (ls ++ (row ∷ [])) below
back-more {L = L} {text = text} {K' = K'} {ls = ls} {below = below} h row e k =
    let more = sym (came-more ls row) in
    record {
      come =
          subst (λ rows. BackCome L text rows below) more
          (back-come L text (came ls ++ (row.now ∷ [])) below h.come.lanes
          (h.come.rows_are ∙ ap (λ l. came ls ++ l) e ∙ sym (append_assoc (came ls) (row.now ∷ []) below)));
      held = subst K' more k;
    }

module _ {L : ℕ} {text : List ℕ} {rows rest : List Row} (x : BackCome L text rows rest) where
  -- the next row
  module _ {row : Row} {below : List Row} (e : rest ≡ row ∷ below) where
    pub next-all : rows_read_back L text ≡ rows ++ (row ∷ below)
    next-all = x.rows_are ∙ ap (λ l. rows ++ l) e

    pub next-inside : length rows < length (rows_read_back L text)
    next-inside = rw next-all (simp length-append (omega arith))

    pub next-here : get_or (rows_read_back L text) (length rows) [] ≡ row
    next-here = rw next-all (get_or-append_seam rows row below [])

    pub next-wide : length row ≡ L
    next-wide = go rows (subst (All (λ (r : Row). length r ≡ L)) next-all (rows-wide L text))
      where
        go : (rs : List Row) → All (λ (r : Row). length r ≡ L) (rs ++ (row ∷ below)) → length row ≡ L
        go [] (one h p) = h
        go (r ∷ rs) (one h p) = go rs p

  pub all-came : rest ≡ [] → rows_read_back L text ≡ rows
  all-came e = x.rows_are ∙ rw (e, append-nil)

pub short-back : (L : ℕ) (text : List ℕ) → All (λ (r : Row). length r ≤ L) (rows_read_back L text)
short-back L text = all_map (λ r h. le_of_eq h) (rows-wide L text)
