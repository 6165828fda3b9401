-- Specification, Note records: the limits of a note that the writer makes, and the claim that every record of an accepted text keeps
-- them and is read back as its note. `writer-makes` in proofs/WriterMakes.antt proves it.
use Rattle.std.specs.Prelude.{◌≡◌, List, ℕ, ◌≤◌, ◌<◌, length, slice_get, Some, Ok}
use Rattle.definitions.specs.Sizes.{most_bytes, row_numbers_bound}
use Rattle.definitions.specs.Notes.{notes}
use Rattle.definitions.specs.Records.{number_of_kind, records, note_of_record}
use Rattle.definitions.specs.declared.Kind.{Kind}
use Rattle.definitions.specs.declared.Kind.TheVariants.{Tap, Hold, Roll, Mine, Lift, Fake}
use Rattle.definitions.specs.declared.Tail.{Tail}
use Rattle.definitions.specs.declared.Tail.TheVariants.{Without, Row}
use Rattle.definitions.specs.declared.Note.{Note}

-- "a tail row below 16,777,216. Of these kinds 1 and 2 have a tail row above their row, and the others have none."
abbrev pub TailMade : ℕ → Kind → Tail → Type 0
TailMade r Tap Without = Unit {0}
TailMade r Tap (Row j) = ⊥
TailMade r Hold Without = ⊥
TailMade r Hold (Row j) = (r < j) × (j < row_numbers_bound)
TailMade r Roll Without = ⊥
TailMade r Roll (Row j) = (r < j) × (j < row_numbers_bound)
TailMade r Mine Without = Unit {0}
TailMade r Mine (Row j) = ⊥
TailMade r Lift Without = Unit {0}
TailMade r Lift (Row j) = ⊥
TailMade r Fake Without = Unit {0}
TailMade r Fake (Row j) = ⊥

-- "The writer makes only records with a column below 10, a kind below 6, and a row and a tail row below 16,777,216. Of these kinds 1 and 2 have a
-- tail row above their row, and the others have none."
pub record Made (n : Note) : Type 0 where
  pub column : n.column < 10
  pub kind : number_of_kind n.kind < 6
  pub row : n.row < row_numbers_bound
  pub tail : TailMade n.row n.kind n.tail

-- Note k keeps the limits, and its record is read back as it.
pub record ReadsBack (ns : List Note) (k : ℕ) : Type 0 where
  pub note : Note
  pub stands : slice_get ns k ≡ Some note
  pub limits : Made note
  pub read : note_of_record (records ns) k ≡ Ok note

-- "What the writer makes of an accepted text reads back as its notes, in their order." For every L from 1 to 10 and every text
-- that no call refuses for its length, this holds of each record of its notes.
unfoldable pub WriterMakes : Type 0
WriterMakes =
    (L : ℕ) → 1 ≤ L → L ≤ 10 → (text : List ℕ) → length text ≤ most_bytes → (k : ℕ) → k < length (notes L text) → ReadsBack (notes L text) k
