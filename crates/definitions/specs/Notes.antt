-- Specification, Typed notes, read forward: what is headed at a cell depends only on that cell and on the rows after its row.
use Rattle.std.specs.Prelude.{List, [], ◌∷◌, ◌++◌, ℕ, zero, suc}
use Rattle.std.specs.Prelude.{Option, None, Some}
use Rattle.definitions.specs.Lists.{joined}
use Rattle.definitions.specs.Lines.{Row}
use Rattle.definitions.specs.Cells.{cell_of, byte_at, effects_of}
use Rattle.definitions.specs.Reduction.{minimised}
use Rattle.definitions.specs.declared.Cell.{Cell}
use Rattle.definitions.specs.declared.Kind.{Kind}
use Rattle.definitions.specs.declared.Tail.TheVariants as tail
use Rattle.definitions.specs.declared.Note.{Note}
use Rattle.definitions.specs.declared.NoteEffect.{NoteEffect}
use Rattle.definitions.specs.declared.NoteEffect.TheVariants.{Nothing, Closes, Single, Head}

-- What a cell does to the notes. "A 3 closes the open head of its column" "Any of 1 2 4 M L F m l f drops the open head's note in its column." "K and
-- the empty cells touch no note."
abbrev pub effect_of : Cell → NoteEffect
effect_of x = (effects_of x).note

-- the effect of a byte
unfoldable pub effect_at : ℕ → NoteEffect
effect_at b = effect_of (cell_of b)

-- What a cell at row i says of the head open above it: its tail row, that it is dropped, or what the rows after it say. "A 3 closes the open head of
-- its column, where there is one, and its row is the tail row of the head's note." Another head drops it: "A column has at most one open head."
abbrev pub meets : NoteEffect → ℕ → Option ℕ → Option ℕ
meets Nothing i later = later
meets Closes i later = Some i
meets (Single k) i later = None
meets (Head k) i later = None

-- the tail row of a head in column c, with these rows after it, numbered from i. "Heads that are open at the chart's end are dropped."
abbrev pub tail_row_of : ℕ → ℕ → List Row → Option ℕ
tail_row_of c i [] = None
tail_row_of c i (r ∷ rs) = meets (effect_at (byte_at c r)) i (tail_row_of c (suc i) rs)

-- "A 1 is a tap, M and m are mines, L and l lifts, F and f fakes: each is a note at its row and column, without a tail."
abbrev pub plain_note : ℕ → ℕ → Kind → List Note
plain_note i c k = record { row = i; tail = tail.Without; column = c; kind = k } ∷ []

-- "A 2 heads a hold and a 4 a roll, which is a note at the head's row and column if it gets a tail."
abbrev pub held_note : ℕ → ℕ → Kind → Option ℕ → List Note
held_note i c k None = []
held_note i c k (Some j) = record { row = i; tail = tail.Row j; column = c; kind = k } ∷ []

-- the note headed by a cell at row i and column c, in a list of at most one, given the tail row that a head there has
abbrev pub cell_notes : NoteEffect → ℕ → ℕ → Option ℕ → List Note
cell_notes Nothing i c t = []
cell_notes Closes i c t = []
cell_notes (Single k) i c t = plain_note i c k
cell_notes (Head k) i c t = held_note i c k t

-- the notes of row i from column c on, with these rows after it
abbrev pub row_notes : ℕ → ℕ → Row → List Row → List Note
row_notes i c [] rs = []
row_notes i c (b ∷ bs) rs = cell_notes (effect_at b) i c (tail_row_of c (suc i) rs) ++ row_notes i (suc c) bs rs

-- the notes of rows numbered from i. "Notes stand in rising row, and in a row in rising column."
abbrev pub notes_from : ℕ → List Row → List Note
notes_from i [] = []
notes_from i (r ∷ rs) = row_notes i zero r rs ++ notes_from (suc i) rs

-- the notes of a text: "Rows are numbered through all minimised rows of the chart."
unfoldable pub notes : ℕ → List ℕ → List Note
notes L text = notes_from 0 (joined (minimised L text))
