-- How the drafts lie in the lent slice and in the writer's struct, and what the writer's own functions do there. Only their contracts cite
-- these; callers go by `Written`.
use Rattle.std.specs.Prelude.{◌≡◌, Bool, false, if◌then◌else◌, ◌||◌, not, List, ◌++◌, map, ℕ, ◌+◌, ◌*◌, ◌<◌, ◌≤◌, ◌==◌, length, slice_index, slice_index_or, set}
use Rattle.std.specs.Prelude.{Option, Some, None}
use lib.Seq.{sets}
use Rattle.definitions.specs.Sizes.{row_numbers_bound}
use Rattle.definitions.specs.Lists.{joined}
use Rattle.definitions.specs.Lines.{Row}
use Rattle.definitions.specs.Records.{fields, bytes4, number_of_kind, records}
use Rattle.definitions.specs.declared.Kind.{Kind}
use Rattle.definitions.specs.declared.Kind.TheVariants.{Tap}
use Rattle.taps.specs.Taps.{FreeTaps, FreeAre}
use Rattle.row_notes.specs.Drafts.{State, plain, waiting, ended, NoteDraft, notes_left}
use Rattle.row_notes.specs.declared.ChartNotesScratch.{ChartNotesScratch}

-- in place of an open head, and the tail fields of records without a tail and of dropped ones
abbrev pub no_head : ℕ
no_head = 4294967295

abbrev pub no_tail : ℕ
no_tail = 4294967295

abbrev pub dropped : ℕ
dropped = 4294967294

-- the row is of taps alone, in columns without an open head
pub record FreeHeads (hs : List ℕ) (row : Row) : Type 0 where
  pub busy : ℕ
  pub mask : ℕ
  pub taps : FreeTaps busy mask row
  pub free : FreeAre busy no_head hs

-- ---- the drafts as bytes

abbrev pub end_number : Option ℕ → ℕ
end_number None = dropped
end_number (Some j) = j

abbrev pub state_number : State → ℕ
state_number plain = no_tail
state_number waiting = no_tail
state_number (ended o) = end_number o

unfoldable pub draft_bytes : NoteDraft → List ℕ
draft_bytes d = fields d.row (state_number d.state) d.column (number_of_kind d.kind)

-- rows and tail rows are below 16,777,216, columns below 10
abbrev pub FineEnd : Option ℕ → Type 0
FineEnd None = Unit {0}
FineEnd (Some j) = j < row_numbers_bound

abbrev pub FineState : State → Type 0
FineState plain = Unit {0}
FineState waiting = Unit {0}
FineState (ended o) = FineEnd o

pub record Fine (d : NoteDraft) : Type 0 where
  pub row : d.row < row_numbers_bound
  pub column : d.column < 10
  pub state : FineState d.state

abbrev pub blank : NoteDraft
blank = record { row = 0; column = 0; kind = Tap; state = plain }

-- where `invalid` is false no draft was dropped
abbrev pub Clean : Bool → List NoteDraft → Type 0
Clean invalid ds = invalid ≡ false → (k : ℕ) → k < length ds → (slice_index_or ds k blank).state ≡ ended None → ⊥

-- the slice l begins with the bytes of the n drafts; at c in hs is the number of the draft that waits in column c
pub record Stored (l hs : List ℕ) (n : ℕ) (invalid : Bool) (ds : List NoteDraft) : Type 0 where
  pub count : n ≡ length ds
  pub few : n < no_head
  pub rest : List ℕ
  pub bytes : l ≡ joined (map draft_bytes ds) ++ rest
  pub ten : length hs ≡ 10
  pub waits : (k : ℕ) → k < n → (slice_index_or ds k blank).state ≡ waiting → slice_index hs (slice_index_or ds k blank).column ≡ k
  pub heads : (c : ℕ) → c < 10 → (slice_index hs c ≡ no_head → ⊥)
      → (slice_index hs c < n) × ((slice_index_or ds (slice_index hs c) blank).column ≡ c) × ((slice_index_or ds (slice_index hs c) blank).state ≡ waiting)
  pub fine : (k : ℕ) → k < n → Fine (slice_index_or ds k blank)
  pub clean : Clean invalid ds

abbrev pub DraftsHeld : List ℕ → ChartNotesScratch → List NoteDraft → Type 0
DraftsHeld l s ds = Stored l s.hold_heads s.count s.has_invalid ds

-- ---- one cell

-- the record of a column's open head lies in the slice
pub record HeadThere (l : List ℕ) (s : ChartNotesScratch) (column : ℕ) : Type 0 where
  pub inside : column < 10
  pub head : (slice_index s.hold_heads column ≡ no_head → ⊥) → slice_index s.hold_heads column * 10 + 10 ≤ length l

-- the slice after the note of a head, if there is one, has ended so
abbrev pub end_at : List ℕ → ℕ → ℕ → List ℕ
end_at l head tail = if head == no_head then l else sets l (head * 10 + 4) (bytes4 tail)

-- the same of the open head of a column
abbrev pub end_head : List ℕ → List ℕ → ℕ → ℕ → List ℕ
end_head l hs column tail = end_at l (slice_index hs column) tail

-- whether a record was dropped, after the open head of a column was
abbrev pub invalid_after : ChartNotesScratch → ℕ → Bool
invalid_after s column = s.has_invalid || not (slice_index s.hold_heads column == no_head)

pub record HoldEnded (l : List ℕ) (s : ChartNotesScratch) (column tail : ℕ) (flag : Bool) (l' : List ℕ) (r : ChartNotesScratch) : Type 0 where
  pub bytes : l' ≡ end_head l s.hold_heads column tail
  pub heads : r.hold_heads ≡ set s.hold_heads column no_head
  pub count : r.count ≡ s.count
  pub row : r.row_index ≡ s.row_index
  pub invalid : r.has_invalid ≡ flag

-- what a cell in a column asks
pub record NoteReady (l : List ℕ) (s : ChartNotesScratch) (column : ℕ) : Type 0 where
  pub inside : column < 10
  pub low : s.row_index < row_numbers_bound
  pub room : s.count * 10 + 10 ≤ length l
  pub few : s.count + 1 < no_head
  pub head : (slice_index s.hold_heads column ≡ no_head → ⊥) → slice_index s.hold_heads column < s.count

-- the column's open head is dropped, a record without a tail is added, and `head` is the column's open head
pub record NotePushed (l : List ℕ) (s : ChartNotesScratch) (column : ℕ) (kind : Kind) (head : ℕ) (l' : List ℕ) (r : ChartNotesScratch) : Type 0 where
  pub bytes : l' ≡ sets (end_head l s.hold_heads column dropped) (s.count * 10) (fields s.row_index no_tail column (number_of_kind kind))
  pub heads : r.hold_heads ≡ set s.hold_heads column head
  pub count : r.count ≡ s.count + 1
  pub row : r.row_index ≡ s.row_index
  pub invalid : r.has_invalid ≡ invalid_after s column

-- what a cell asks, in numbers: the open head of its column, the number of records, its row and its column
pub record CellReady (l : List ℕ) (head count row column : ℕ) : Type 0 where
  pub inside : column < 10
  pub low : row < row_numbers_bound
  pub room : count * 10 + 10 ≤ length l
  pub few : count + 1 < no_head
  pub there : (head ≡ no_head → ⊥) → head < count

-- the slice after the head's note was dropped and a record without a tail added
abbrev pub note_at : List ℕ → ℕ → ℕ → ℕ → ℕ → Kind → List ℕ
note_at l head count row column kind = sets (end_at l head dropped) (count * 10) (fields row no_tail column (number_of_kind kind))

-- whatever drafts were there, f of them are, and at most m more
pub record NoteStepped (l : List ℕ) (s : ChartNotesScratch) (l' : List ℕ) (r : ChartNotesScratch) (m : ℕ) (f : List NoteDraft → List NoteDraft) : Type 0 where
  pub stored : (ds : List NoteDraft) → DraftsHeld l s ds → DraftsHeld l' r (f ds)
  pub bound : r.count ≤ s.count + m
  pub row : r.row_index ≡ s.row_index

-- ---- the end

-- the struct and the slice hold drafts, whichever they are
pub record HoldsDrafts (l : List ℕ) (s : ChartNotesScratch) : Type 0 where
  pub drafts : List NoteDraft
  pub stored : DraftsHeld l s drafts

-- the slice l begins with the bytes of the n drafts, of which none waits
pub record DraftsEnded (l : List ℕ) (n : ℕ) (invalid : Bool) (ds : List NoteDraft) : Type 0 where
  pub count : n ≡ length ds
  pub rest : List ℕ
  pub bytes : l ≡ joined (map draft_bytes ds) ++ rest
  pub done : (k : ℕ) → k < n → (slice_index_or ds k blank).state ≡ waiting → ⊥
  pub fine : (k : ℕ) → k < n → Fine (slice_index_or ds k blank)
  pub clean : Clean invalid ds

-- the heads have ended, and the same notes are left
pub record HeadsEnded (l : List ℕ) (s : ChartNotesScratch) (l' : List ℕ) (r : ChartNotesScratch) : Type 0 where
  pub count : r.count ≡ s.count
  pub ended : (ds : List NoteDraft) → DraftsHeld l s ds → (es : List NoteDraft) × DraftsEnded l' r.count r.has_invalid es × (notes_left es ≡ notes_left ds)

-- l' begins with the r records of the notes that are left
pub record Compacted (l : List ℕ) (n : ℕ) (invalid : Bool) (l' : List ℕ) (r : ℕ) : Type 0 where
  pub bound : r ≤ n
  pub count : (ds : List NoteDraft) → DraftsEnded l n invalid ds → r ≡ length (notes_left ds)
  pub bytes : (ds : List NoteDraft) → DraftsEnded l n invalid ds → (q : List ℕ) × (l' ≡ records (notes_left ds) ++ q)
