-- Specification, Pad traces: what holds of hits, strays and misses, and so of the 23 places of every answer. proofs/Presses.antt, CleanTrace.antt and
-- TraceCounted.antt prove it.
use Rattle.std.specs.Prelude.{◌≡◌, true, List, map, ℕ, ◌+◌, ◌/◌, ◌<◌, length, slice_index, Ok}
use Rattle.definitions.specs.Lists.{sum_columns}
use Rattle.definitions.specs.declared.Note.{Note}
use Rattle.definitions.specs.declared.Press.{Press}
use Rattle.definitions.specs.Written.{notes_in, within_lanes}
use Rattle.definitions.specs.Presses.{presses_in, notes_rise, presses_rise, columns_fit, played, hits, strays, misses, hits_in, misses_in, played_in, press_answer}

-- "the hits and the strays together are as many as the presses": of any notes and presses, in any order
unfoldable pub PressesCounted : Type 0
PressesCounted = (ns : List Note) (ps : List Press) → length (hits ns ps) + length (strays ns ps) ≡ length ps

-- "the hits and the misses together are as many as the played notes, and in each column too"
pub record NotesCounted (ns : List Note) (ps : List Press) : Type 0 where
  pub all : length (hits ns ps) + length (misses ns ps) ≡ length (played ns)
  pub column : (c : ℕ) → hits_in ns ps c + misses_in ns ps c ≡ played_in ns c

-- where each note stands before the next: two taps at one place are two played notes, and one press is one hit and leaves no miss
unfoldable pub NotesAreCounted : Type 0
NotesAreCounted = (ns : List Note) (ps : List Press) → notes_rise ns ≡ true → NotesCounted ns ps

-- "the hits of the columns 0 to 9 together are the hits, and their misses the misses"
pub record ColumnsCounted (ns : List Note) (ps : List Press) : Type 0 where
  pub hit : sum_columns 10 (hits_in ns ps) ≡ length (hits ns ps)
  pub missed : sum_columns 10 (misses_in ns ps) ≡ length (misses ns ps)

-- where no column is over 9
unfoldable pub ColumnsAreCounted : Type 0
ColumnsAreCounted = (ns : List Note) (ps : List Press) → within_lanes 10 ns ≡ true → columns_fit ps ≡ true → ColumnsCounted ns ps

-- a press on a note
abbrev pub press_on : Note → Press
press_on n = record { row = n.row; column = n.column }

-- "the presses, in their order, stand where the played notes do, in theirs"
abbrev pub OneOnEach : List Note → List Press → Type 0
OneOnEach ns ps = ps ≡ map press_on (played ns)

-- "there are neither strays nor misses exactly if" they do
pub record Clean (ns : List Note) (ps : List Press) : Type 0 where
  pub clean : length (strays ns ps) ≡ 0 → length (misses ns ps) ≡ 0 → OneOnEach ns ps
  pub only : OneOnEach ns ps → (length (strays ns ps) ≡ 0) × (length (misses ns ps) ≡ 0)

-- where each note stands before the next, and no press falls
unfoldable pub CleanTrace : Type 0
CleanTrace = (ns : List Note) (ps : List Press) → notes_rise ns ≡ true → presses_rise ps ≡ true → Clean ns ps

-- "So it is of all records and traces that are accepted": the four, of the 23 places that are answered, "hits, strays, misses, the hits of the columns
-- 0 to 9, the misses of the columns 0 to 9"
pub record TraceCounted (s t places : List ℕ) : Type 0 where
  pub presses : slice_index places 0 + slice_index places 1 ≡ length t / 5
  pub notes : (slice_index places 0 + slice_index places 2 ≡ length (played (notes_in s)))
      × ((c : ℕ) → c < 10 → slice_index places (3 + c) + slice_index places (13 + c) ≡ played_in (notes_in s) c)
  pub columns : (sum_columns 10 (λ c. slice_index places (3 + c)) ≡ slice_index places 0)
      × (sum_columns 10 (λ c. slice_index places (13 + c)) ≡ slice_index places 2)
  pub clean : (slice_index places 1 ≡ 0 → slice_index places 2 ≡ 0 → OneOnEach (notes_in s) (presses_in t))
      × (OneOnEach (notes_in s) (presses_in t) → (slice_index places 1 ≡ 0) × (slice_index places 2 ≡ 0))

unfoldable pub TraceIsCounted : Type 0
TraceIsCounted = (s t places : List ℕ) → press_answer s t ≡ Ok places → TraceCounted s t places
