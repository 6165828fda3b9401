-- Specification, Dropped holds: the heads that have no note, each with what dropped it; read forward as the notes are.
use Rattle.std.specs.Prelude.{List, [], ◌∷◌, ◌++◌, map, ℕ, zero, suc}
use Rattle.definitions.specs.Lists.{joined}
use Rattle.definitions.specs.Lines.{Row}
use Rattle.definitions.specs.Cells.{byte_at}
use Rattle.definitions.specs.Reduction.{minimised}
use Rattle.definitions.specs.Notes.{effect_at}
use Rattle.definitions.specs.Records.{fields}
use Rattle.definitions.specs.declared.NoteEffect.{NoteEffect}
use Rattle.definitions.specs.declared.NoteEffect.TheVariants.{Nothing, Closes, Single, Head}
use Rattle.definitions.specs.declared.DropCause.{DropCause}
use Rattle.definitions.specs.declared.DropCause.TheVariants.{OtherHead, OtherCell, ChartEnd}
use Rattle.definitions.specs.declared.Fate.{Fate}
use Rattle.definitions.specs.declared.Fate.TheVariants.{ClosedAt, DroppedBy}
use Rattle.definitions.specs.declared.DroppedHead.{DroppedHead}

-- What a cell at row i says of the head before it, given what the rows after it say. "A 3 closes the head, and it is a note; any other of them
-- drops it." "K and the empty cells tell nothing"
abbrev pub decides : NoteEffect → ℕ → Fate → Fate
decides Nothing i later = later
decides Closes i later = ClosedAt i
decides (Single k) i later = DroppedBy (OtherCell i)
decides (Head k) i later = DroppedBy (OtherHead i)

-- The fate of a head in column c, with these rows after it, numbered from i. "What becomes of a head is told by the first of 1 2 3 4 M L F m l f that
-- follows it in its column." "Where none of them follows it the chart's end drops it."
abbrev pub fate_of : ℕ → ℕ → List Row → Fate
fate_of c i [] = DroppedBy ChartEnd
fate_of c i (r ∷ rs) = decides (effect_at (byte_at c r)) i (fate_of c (suc i) rs)

-- a head at row i and column c in a list of at most one, where its fate drops it
abbrev pub if_dropped : ℕ → ℕ → Fate → List DroppedHead
if_dropped i c (ClosedAt j) = []
if_dropped i c (DroppedBy cause) = record { row = i; column = c; cause = cause } ∷ []

-- of a cell, given the fate that a head there has
abbrev pub cell_drops : NoteEffect → ℕ → ℕ → Fate → List DroppedHead
cell_drops Nothing i c f = []
cell_drops Closes i c f = []
cell_drops (Single k) i c f = []
cell_drops (Head k) i c f = if_dropped i c f

-- What is made of rows, where `cell` says what a cell makes of its effect, its row and column, and the fate that a head there has.
module _ {A : Type 0} (cell : NoteEffect → ℕ → ℕ → Fate → List A) where
  -- of row i from column c on, with these rows after it
  abbrev pub made_row : ℕ → ℕ → Row → List Row → List A
  made_row i c [] rs = []
  made_row i c (b ∷ bs) rs = cell (effect_at b) i c (fate_of c (suc i) rs) ++ made_row i (suc c) bs rs

  -- of rows numbered from i
  abbrev pub made_from : ℕ → List Row → List A
  made_from i [] = []
  made_from i (r ∷ rs) = made_row i zero r rs ++ made_from (suc i) rs

-- the dropped heads of rows numbered from i: "Its heads stand in rising row, and in a row in rising column."
abbrev pub drops_from : ℕ → List Row → List DroppedHead
drops_from i rows = made_from cell_drops i rows

-- "The list has each dropped head once."
unfoldable pub dropped_heads : ℕ → List ℕ → List DroppedHead
dropped_heads L text = drops_from 0 (joined (minimised L text))

-- "the row that dropped it, low byte first, or 4,294,967,295 where the chart's end did"
abbrev pub number_of_dropper : DropCause → ℕ
number_of_dropper (OtherHead j) = j
number_of_dropper (OtherCell j) = j
number_of_dropper ChartEnd = 4294967295

-- "0 a 2 or 4, 1 any of 1 M L F m l f, 2 the chart's end"
abbrev pub number_of_cause : DropCause → ℕ
number_of_cause (OtherHead j) = 0
number_of_cause (OtherCell j) = 1
number_of_cause ChartEnd = 2

-- "the row of the head, low byte first", "the row that dropped it", "the column", "the reason"
unfoldable pub encode_dropped : DroppedHead → List ℕ
encode_dropped d = fields d.row (number_of_dropper d.cause) d.column (number_of_cause d.cause)

-- "A record of the list has 10 bytes, and records stand back to back without a header."
unfoldable pub dropped_records : List DroppedHead → List ℕ
dropped_records ds = joined (map encode_dropped ds)
