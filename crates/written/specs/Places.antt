-- Where the rows of the text stand that is written, and a note put there.
use Rattle.std.specs.Prelude.{◌≡◌, if◌then◌else◌, List, [], ◌∷◌, ℕ, ◌+◌, ◌-◌, ◌*◌, ◌≤◌, ◌<◌, nat_lt, length, drop, slice_index, slice_set}
use Rattle.definitions.specs.Written.{letter_of, sum_of}
use Rattle.definitions.specs.declared.Note.{Note}
use Rattle.definitions.specs.declared.Tail.{Tail}
use Rattle.definitions.specs.declared.Tail.TheVariants as tail
use Rattle.written.specs.declared.places.Place.{Place}

-- where row i begins: past L + 1 bytes of each row before it, and 2 after each measure before its own
abbrev pub row_place : ℕ → List ℕ → ℕ → ℕ
row_place L [] i = 0
row_place L (n ∷ counts) i = if nat_lt i n then (L + 1) * i else (L + 1) * n + 2 + row_place L counts (i - n)

-- a `3` at a tail's row, in a column
abbrev pub with_tail : ℕ → List ℕ → ℕ → Tail → List ℕ → List ℕ
with_tail L counts c tail.Without text = text
with_tail L counts c (tail.Row j) text = slice_set text (row_place L counts j + c) 51

-- a note's letter and its tail
abbrev pub with_note : ℕ → List ℕ → Note → List ℕ → List ℕ
with_note L counts n text =
    with_tail L counts n.column n.tail (slice_set text (row_place L counts n.row + n.column) (letter_of n.kind))

-- the place of a measure: its number, its first row, and where that begins
pub record MeasureAt (L : ℕ) (counts : List ℕ) (p : Place) : Type 0 where
  pub within : p.measure ≤ length counts
  pub sum : sum_of counts ≡ p.first + sum_of (drop p.measure counts)
  pub rows : (i : ℕ) → p.first ≤ i → row_place L counts i ≡ p.at + row_place L (drop p.measure counts) (i - p.first)

-- of any counts, the first measure's
abbrev pub FirstPlace : Place → Type 0
FirstPlace p = (L : ℕ) (counts : List ℕ) → MeasureAt L counts p

-- the place of the measure that has row i
pub record PlaceOf (L : ℕ) (counts : List ℕ) (i : ℕ) (p : Place) : Type 0 where
  pub stands : MeasureAt L counts p
  pub given : p.measure < length counts
  pub after : p.first ≤ i
  pub before : i < p.first + slice_index counts p.measure
