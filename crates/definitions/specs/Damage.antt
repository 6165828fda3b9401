-- Specification, Damage: when two texts differ only in lines of one measure, and what is then the same in both. "So it is of every call that is
-- lent a text and answers minimised text, row beats, densities, spacing, typed notes or the last beat." "Damage speaks of the data alone, and not
-- of files."
use Rattle.std.specs.Prelude.{◌≡◌, ◌≢◌, ◌⊎◌, Bool, true, false, if◌then◌else◌, ◌&&◌, not, List, [], ◌∷◌, ℕ, suc, ◌+◌, ◌≤◌, ◌<◌, ◌==◌, nat_lt, nat_le, length, take, drop, slice_get, slice_index_or, filter}
use Rattle.std.specs.List.{AllZip}
use Rattle.definitions.specs.Lists.{among, joined}
use Rattle.definitions.specs.Lines.{Row, cut, line_kind}
use Rattle.definitions.specs.Cells.{byte_at}
use Rattle.definitions.specs.Measures.{chart}
use Rattle.definitions.specs.Reduction.{minimised}
use Rattle.definitions.specs.Figures.{densities, spacings}
use Rattle.definitions.specs.Beats.{measure_beats}
use Rattle.definitions.specs.Objects.{last48, last_beat_of}
use Rattle.definitions.specs.Notes.{notes}
use Rattle.definitions.specs.Entries.{row_count}
use Rattle.definitions.specs.declared.LineKind.{LineKind}
use Rattle.definitions.specs.declared.LineKind.TheVariants as line
use Rattle.definitions.specs.declared.Kind.{Kind}
use Rattle.definitions.specs.declared.Kind.TheVariants.{Hold, Roll}
use Rattle.definitions.specs.declared.Tail.{Tail}
use Rattle.definitions.specs.declared.Tail.TheVariants as tail
use Rattle.definitions.specs.declared.Note.{Note}

-- Where the reading stands before a line: so many measures have ended, or the reading has.
pub data Standing : Type 0 where
  ended : ℕ → Standing
  over : Standing

-- where the reading stands after a line of that kind
abbrev pub after : Standing → LineKind → Standing
after (ended k) line.Passed = ended k
after (ended k) line.Comma = ended (suc k)
after (ended k) line.Semi = over
after (ended k) line.Row = ended k
after over x = over

-- A line ends a measure or the reading.
abbrev pub ends : LineKind → Bool
ends line.Passed = false
ends line.Comma = true
ends line.Semi = true
ends line.Row = false

-- "A line is in measure d if before it d measures have ended and the reading has not, and if it ends neither a measure nor the reading."
pub record InMeasure (L d : ℕ) (p : Standing) (l : List ℕ) : Type 0 where
  pub standing : p ≡ ended d
  pub inside : ends (line_kind L l) ≡ false

-- "some lines of d can be struck out of each": striking out some lines of measure d from the first list of lines leaves the second.
pub data Struck (L d : ℕ) : Standing → List (List ℕ) → List (List ℕ) → Type 0 where
  done : {p : Standing} → Struck L d p [] []
  stay : {p : Standing} {l : List ℕ} {xs ys : List (List ℕ)}
      → Struck L d (after p (line_kind L l)) xs ys → Struck L d p (l ∷ xs) (l ∷ ys)
  out : {p : Standing} {l : List ℕ} {xs ys : List (List ℕ)} → InMeasure L d p l → Struck L d p xs ys → Struck L d p (l ∷ xs) ys

-- "Two texts, the old and the new, differ only in lines of measure d if some lines of d can be struck out of each so that the same lines are left of
-- both."
pub record Differ (L d : ℕ) (old new : List ℕ) : Type 0 where
  pub left : List (List ℕ)
  pub from_old : Struck L d (ended 0) (cut old) left
  pub from_new : Struck L d (ended 0) (cut new) left

-- "of each measure but d": as many, and at every place but d the same.
pub record SameBut {A : Type 0} (d : ℕ) (s t : List A) : Type 0 where
  pub count : length s ≡ length t
  pub others : (i : ℕ) → i ≢ d → slice_get s i ≡ slice_get t i

-- Of a text at L lanes: the minimised rows before measure d, those of d and those of the later measures.
abbrev pub rows_above : ℕ → ℕ → List ℕ → List Row
rows_above L d text = joined (take d (minimised L text))

-- the minimised rows of measure d
abbrev pub rows_of : ℕ → ℕ → List ℕ → List Row
rows_of L d text = slice_index_or (minimised L text) d []

-- those of the measures after d
abbrev pub rows_later : ℕ → ℕ → List ℕ → List Row
rows_later L d text = joined (drop (suc d) (minimised L text))

-- All rows of the later measures, before minimising, which drops only rows that are all zero.
abbrev pub all_later : ℕ → ℕ → List ℕ → List Row
all_later L d text = joined (drop (suc d) (chart L text))

-- "notes headed in earlier measures": those before d. "A note is headed in the measure of its row."
abbrev pub earlier : ℕ → ℕ → List ℕ → List Note
earlier L d text = filter (λ x. nat_lt x.row (length (rows_above L d text))) (notes L text)

-- "notes headed in later measures": those after d
abbrev pub later : ℕ → ℕ → List ℕ → List Note
later L d text = filter (λ x. nat_le (length (rows_above L (suc d) text)) x.row) (notes L text)

-- "The shift, from old to new, is the new text's number of minimised rows in d less the old text's; a note without a tail stays without one."
-- With a rows in the old text and b in the new, x moves to y where y + a = x + b.
abbrev pub ShiftedTail : ℕ → ℕ → Tail → Tail → Type 0
ShiftedTail a b tail.Without tail.Without = Unit {0}
ShiftedTail a b tail.Without (tail.Row y) = ⊥
ShiftedTail a b (tail.Row x) tail.Without = ⊥
ShiftedTail a b (tail.Row x) (tail.Row y) = y + a ≡ x + b

-- "but for one shift of rows and tail rows": x of the old text is y in the new, row and tail with the shift, column and kind the same.
pub record Shifted (a b : ℕ) (x y : Note) : Type 0 where
  pub row : y.row + a ≡ x.row + b
  pub tail : ShiftedTail a b x.tail y.tail
  pub column : x.column ≡ y.column
  pub kind : x.kind ≡ y.kind

-- a byte 1 2 3 4 M L F m l f
unfoldable pub stops : ℕ → Bool
stops b = among b (49 ∷ 50 ∷ 51 ∷ 52 ∷ 77 ∷ 76 ∷ 70 ∷ 109 ∷ 108 ∷ 102 ∷ [])

-- a byte 2 or 4
unfoldable pub is_head : ℕ → Bool
is_head b = among b (50 ∷ 52 ∷ [])

-- the kind of the note that a 2 or a 4 heads
unfoldable pub head_kind : ℕ → Kind
head_kind b = if b == 50 then Hold else Roll

-- of a column c of rows: "no 1 2 3 4 M L F m l f follows it in its column before d"
abbrev pub untouched : ℕ → List Row → Bool
untouched c [] = true
untouched c (r ∷ rs) = not (stops (byte_at c r)) && untouched c rs

-- the byte at row i and column c of rows
abbrev pub byte_in : List Row → ℕ → ℕ → ℕ
byte_in rows i c = byte_at c (slice_index_or rows i [])

-- "A head before d is open where d begins if no 1 2 3 4 M L F m l f follows it in its column before d": rows are those before d
abbrev pub open_in : List Row → ℕ → ℕ → Bool
open_in rows i c = is_head (byte_in rows i c) && untouched c (drop (suc i) rows)

-- the note's head is one of those open where d begins
abbrev pub open_at : ℕ → ℕ → List ℕ → Note → Bool
open_at L d text x = open_in (rows_above L d text) x.row x.column

-- "in each text it is missing, or has the head's row, column and kind, and its tail row is in d or later and in that text": in row s or later,
-- where d begins at row s, and in one of the text's n minimised rows
unfoldable pub MissingOrLate : ℕ → ℕ → ℕ → ℕ → Kind → List Note → Type 0
MissingOrLate s n i c k ns =
    let here = filter (λ x. x.row == i && x.column == c) ns in
    (here ≡ []) ⊎ ((j : ℕ) × (s ≤ j) × (j < n) × (here ≡ record { row = i; tail = tail.Row j; column = c; kind = k } ∷ []))

-- a byte 1, M, L, F or K: "What is said of the last beat goes by 1, M, L, F and K alone, and not by m, l and f."
unfoldable pub object : ℕ → Bool
object b = among b (49 ∷ 77 ∷ 76 ∷ 70 ∷ 75 ∷ [])

-- "the later measures have a 1, M, L, F or K"
unfoldable pub HoldObject : List Row → Type 0
HoldObject rows = (c : ℕ) × ((i : ℕ) × (object (byte_in rows i c) ≡ true))

-- "in each of their columns with a 3 such a cell stands before the first 3" (51): before each 3
unfoldable pub ObjectFirst : List Row → Type 0
ObjectFirst rows = (c i : ℕ) → byte_in rows i c ≡ 51 → (j : ℕ) × (j < i) × (object (byte_in rows j c) ≡ true)

-- "they have these figures in common": damage in one measure stays there.
pub record DamageStays (L d : ℕ) (old new : List ℕ) : Type 0 where
  -- measures: "their number, and the minimised rows of each but d"
  pub same_rows : SameBut d (minimised L old) (minimised L new)
  -- row beats, densities, spacing: "those of each measure but d, the beats as floats"
  pub same_beats : SameBut d (measure_beats L old) (measure_beats L new)
  pub same_density : SameBut d (densities L old) (densities L new)
  pub same_spacing : SameBut d (spacings L old) (spacings L new)
  -- notes headed in later measures: "their number, order and fields, but for one shift of rows and tail rows"
  pub later_notes : AllZip (Shifted (length (rows_of L d old)) (length (rows_of L d new))) (later L d old) (later L d new)
  -- Notes headed in earlier measures: "their number, order and fields, those of the heads that are open where d begins left out in both". These are
  -- heads of the rows before d, the same in both texts.
  pub same_before : rows_above L d old ≡ rows_above L d new
  pub earlier_notes : filter (λ x. not (open_at L d old x)) (earlier L d old) ≡ filter (λ x. not (open_at L d new x)) (earlier L d new)
  -- The note of such an open head: "in each text it is missing, or has the head's row, column and kind, and its tail row is in d or later and in that
  -- text".
  pub open_heads : (i c : ℕ)
      → open_in (rows_above L d old) i c ≡ true
      → MissingOrLate (length (rows_above L d old)) (row_count L old) i c (head_kind (byte_in (rows_above L d old) i c)) (notes L old)
      × MissingOrLate (length (rows_above L d old)) (row_count L new) i c (head_kind (byte_in (rows_above L d old) i c)) (notes L new)
  -- The last beat: "its bits, and it in 48ths, where the later measures have a 1, M, L, F or K, and in each of their columns with a 3 such a cell
  -- stands before the first 3". "Equal floats have equal bits."
  pub same_last : HoldObject (all_later L d old) → ObjectFirst (all_later L d old) → last_beat_of L old ≡ last_beat_of L new
  pub same_last48 : HoldObject (all_later L d old) → ObjectFirst (all_later L d old) → last48 L old ≡ last48 L new
