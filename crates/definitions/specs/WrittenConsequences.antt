-- What a reader expects of the theorems on written charts, in other words. As in Consequences.antt, each follows from the statements of its
-- theorems alone, so no part of one can say less unseen; only `WrittenExamplesCounted` is of the table. proofs/Consequences/Written.antt proves
-- them.
use Rattle.std.specs.Prelude.{◌≡◌, ◌≢◌, true, false, if◌then◌else◌, List, All, count_by, ℕ, ◌≤◌, ◌<◌, length, Ok}
use Rattle.definitions.specs.Sizes.{most_bytes}
use Rattle.definitions.specs.Lists.{among, joined}
use Rattle.definitions.specs.Lanes.{is_lane_count}
use Rattle.definitions.specs.Reduction.{minimised}
use Rattle.definitions.specs.Figures.{minimised_text}
use Rattle.definitions.specs.Notes.{notes}
use Rattle.definitions.specs.Records.{records}
use Rattle.definitions.specs.Refusals.{number_told}
use Rattle.definitions.specs.WriterMakes.{Made}
use Rattle.definitions.specs.Damage.{is_head, byte_in}
use Rattle.definitions.specs.Dropped.{dropped_heads}
use Rattle.definitions.specs.DroppedOrNoted.{noted}
use Rattle.definitions.specs.Written.{tailed, written_text, written_measures, written_length, notes_in, meet, some_shrink}
use Rattle.definitions.specs.WrittenBack.{row_counts, written_letters, Whole}
use Rattle.definitions.specs.Entries.{written_answer}
use Rattle.definitions.specs.WrittenExamples as charts
use Rattle.definitions.specs.declared.Tail.TheVariants.{Row}
use Rattle.definitions.specs.declared.Note.{Note}
use Rattle.definitions.specs.declared.WrittenFigures.{WrittenFigures}

-- ---- Of what is accepted: records s in bytes and row counts, with some text slice

pub record Accepted (L : ℕ) (s counts : List ℕ) : Type 0 where
  pub room : List ℕ
  pub figures : WrittenFigures
  pub bytes : All (λ b. b < 256) s
  pub answer : written_answer L s counts room ≡ Ok figures

-- nothing is lost: where two written texts have one minimised text, the records are the same and so are the row counts
unfoldable pub ToldByText : Type 0
ToldByText =
    (L : ℕ) (s t counts others : List ℕ)
    → Accepted L s counts
    → Accepted L t others
    → minimised_text L (written_text L (notes_in s) counts) ≡ minimised_text L (written_text L (notes_in t) others)
    → (s ≡ t) × (counts ≡ others)

-- each head of the written text has one note record
unfoldable pub HeadsNoted : Type 0
HeadsNoted =
    (L : ℕ) (s counts : List ℕ)
    → Accepted L s counts
    → let text = written_text L (notes_in s) counts in
    (i c : ℕ) → is_head (byte_in (joined (minimised L text)) i c) ≡ true → noted i c (notes L text) ≡ 1

-- figure 0 is the length of the written text, and no call that is given this text answers 1
unfoldable pub FigureIsLength : Type 0
FigureIsLength =
    (L : ℕ) (s counts : List ℕ) (a : Accepted L s counts)
    → let text = written_text L (notes_in s) counts in (a.figures.bytes ≡ length text) × (length text ≤ most_bytes)

-- ---- Of what is read and not edited: the notes and row counts of a text of at most 16,777,214 bytes, where there is room for what is written

-- they are accepted, or answered 15 where a measure could be minimised further
unfoldable pub UneditedAnswered : Type 0
UneditedAnswered =
    (L : ℕ) (text room : List ℕ)
    → is_lane_count L ≡ true
    → length text < most_bytes
    → written_length L (row_counts L text) ≤ length room
    → number_told (written_answer L (records (notes L text)) (row_counts L text) room)
    ≡ (if some_shrink (written_measures L (notes L text) (row_counts L text)) then 15 else 0)

-- where "each cell of its minimised rows is one of 0 1 2 3 4 M L F, no head is dropped, and each 3 closes a head", they are accepted, and the
-- minimised text is written
unfoldable pub NothingElseLost : Type 0
NothingElseLost =
    (L : ℕ) (text room : List ℕ)
    → is_lane_count L ≡ true
    → length text < most_bytes
    → written_length L (row_counts L text) ≤ length room
    → Whole L text
    → (number_told (written_answer L (records (notes L text)) (row_counts L text) room) ≡ 0)
    × (written_text L (notes L text) (row_counts L text) ≡ minimised_text L text)

-- and where it is written the minimised rows have no K, m, l, f nor any other letter, no dropped head, and no 3 that closes nothing
unfoldable pub CannotComeBack : Type 0
CannotComeBack =
    (L : ℕ) (text : List ℕ)
    → 1 ≤ L
    → written_text L (notes L text) (row_counts L text) ≡ minimised_text L text
    → ((i c b : ℕ) → among b written_letters ≡ false → byte_in (joined (minimised L text)) i c ≢ b)
    × (length (dropped_heads L text) ≡ 0)
    × ((i c : ℕ) → byte_in (joined (minimised L text)) i c ≡ 51 → 1 ≤ count_by (tailed i c) (notes L text))

-- ---- Of notes that meet

-- a note at the tail of a hold of its column, or between its head and tail, meets it; one below the tail does not
unfoldable pub MeetsToTheTail : Type 0
MeetsToTheTail =
    (x y : Note) (j : ℕ)
    → Made x
    → Made y
    → x.column ≡ y.column
    → x.tail ≡ Row j
    → x.row ≤ y.row
    → (y.row ≤ j → meet x y ≡ true) × (j < y.row → meet x y ≡ false)

-- ---- Of the examples

unfoldable pub WrittenExamplesCounted : Type 0
WrittenExamplesCounted = length charts.table ≡ 38
