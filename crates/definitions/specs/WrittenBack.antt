-- Specification, Writing a chart: what holds of it. `written-reads-back`, `read-notes-pass`, `comes-back-exactly`, `meets-as-asked` and
-- `written-length-short` in proofs/Written.antt prove it.
use Rattle.std.specs.Prelude.{◌≡◌, Bool, true, false, ◌&&◌, ◌||◌, List, [], ◌∷◌, map, ℕ, ◌+◌, ◌≤◌, ◌<◌, ◌==◌, nat_lt, length, All, Ok}
use Rattle.std.specs.List.{list_any}
use Rattle.definitions.specs.Lists.{among, joined}
use Rattle.definitions.specs.Lines.{Row}
use Rattle.definitions.specs.Reduction.{minimised}
use Rattle.definitions.specs.Figures.{minimised_text}
use Rattle.definitions.specs.Notes.{notes}
use Rattle.definitions.specs.Records.{records}
use Rattle.definitions.specs.WriterMakes.{Made}
use Rattle.definitions.specs.Dropped.{dropped_heads}
use Rattle.definitions.specs.Damage.{byte_in}
use Rattle.definitions.specs.Written.{ends_at, tailed, written_text, written_length, notes_in, out_of_order, last_of, meet, some_meet, none_given, sum_of, some_past, other_counts}
use Rattle.definitions.specs.Entries.{written_answer}
use Rattle.definitions.specs.declared.Note.{Note}
use Rattle.definitions.specs.declared.WrittenFigures.{WrittenFigures}

-- the row counts of a text's measures
unfoldable pub row_counts : ℕ → List ℕ → List ℕ
row_counts L text = map (λ (m : List Row). length m) (minimised L text)

-- "Of what is accepted the written text has these records and row counts, is its own minimised text, and drops no head": of records s and counts
pub record GivesBack (L : ℕ) (s counts : List ℕ) : Type 0 where
  pub records_back : records (notes L (written_text L (notes_in s) counts)) ≡ s
  pub counts_back : row_counts L (written_text L (notes_in s) counts) ≡ counts
  pub text_back : minimised_text L (written_text L (notes_in s) counts) ≡ written_text L (notes_in s) counts
  pub none_dropped : dropped_heads L (written_text L (notes_in s) counts) ≡ []
  -- and it is as long as it is to be
  pub size : length (written_text L (notes_in s) counts) ≡ written_length L counts

-- of all records in bytes and all counts that the call accepts, with any text slice
unfoldable pub WrittenReadsBack : Type 0
WrittenReadsBack =
    (L : ℕ) (s counts text₀ : List ℕ) (f : WrittenFigures) → All (λ b. b < 256) s → written_answer L s counts text₀ ≡ Ok f → GivesBack L s counts

-- "The notes and row counts of every text are refused with 15 at most, and then because a measure could be minimised further."
pub record NotesPass (L : ℕ) (text : List ℕ) : Type 0 where
  pub order : out_of_order L (notes L text) ≡ false
  pub apart : some_meet (notes L text) ≡ false
  pub counted : none_given (row_counts L text) ≡ false
  pub within : some_past (sum_of (row_counts L text)) (notes L text) ≡ false

unfoldable pub ReadNotesPass : Type 0
ReadNotesPass = (L : ℕ) (text : List ℕ) → 1 ≤ L → NotesPass L text

-- 0 1 2 3 4 M L F
abbrev pub written_letters : List ℕ
written_letters = 48 ∷ 49 ∷ 50 ∷ 51 ∷ 52 ∷ 77 ∷ 76 ∷ 70 ∷ []

-- a note of the list is tailed there
abbrev pub some_tailed : ℕ → ℕ → List Note → Bool
some_tailed i c ns = list_any (tailed i c) ns

-- "each cell of its minimised rows is one of 0 1 2 3 4 M L F, no head is dropped, and each 3 closes a head"
pub record Whole (L : ℕ) (text : List ℕ) : Type 0 where
  pub letters : (i c : ℕ) → among (byte_in (joined (minimised L text)) i c) written_letters ≡ true
  pub none_dropped : dropped_heads L text ≡ []
  pub tails : (i c : ℕ) → byte_in (joined (minimised L text)) i c ≡ 51 → some_tailed i c (notes L text) ≡ true

-- "What is written for the notes and row counts of a text is its minimised text exactly if" that holds
pub record ComesBack (L : ℕ) (text : List ℕ) : Type 0 where
  pub back : Whole L text → written_text L (notes L text) (row_counts L text) ≡ minimised_text L text
  pub only : written_text L (notes L text) (row_counts L text) ≡ minimised_text L text → Whole L text
  -- "and is then not refused with 15"
  pub accepted : Whole L text → other_counts L (notes L text) (row_counts L text) ≡ false

unfoldable pub ComesBackExactly : Type 0
ComesBackExactly = (L : ℕ) (text : List ℕ) → 1 ≤ L → ComesBack L text

-- a cell in row i is wanted by a note: by its head or its tail
abbrev pub wants : ℕ → Note → Bool
wants i n = n.row == i || ends_at i n.tail

-- a cell in row i is inside a hold or roll
abbrev pub inside : ℕ → Note → Bool
inside i n = nat_lt n.row i && nat_lt i (last_of n.row n.tail)

-- a cell in row i is wanted by a note, or inside it
abbrev pub takes : ℕ → Note → Bool
takes i n = wants i n || inside i n

-- one of a note's cells is wanted by another note or inside it
abbrev pub clashes : Note → Note → Bool
clashes x y = takes y.row x || takes (last_of y.row y.tail) x

-- "Two notes of one column meet exactly if a cell is wanted by both or a cell of one is inside the other"
unfoldable pub MeetsAsAsked : Type 0
MeetsAsAsked = (x y : Note) → Made x → Made y → meet x y ≡ (x.column == y.column && (clashes x y || clashes y x))

-- "The text that is to be written for a text's row counts is at most one byte longer than the text."
unfoldable pub WrittenLengthShort : Type 0
WrittenLengthShort = (L : ℕ) (text : List ℕ) → 1 ≤ L → written_length L (row_counts L text) ≤ length text + 1
