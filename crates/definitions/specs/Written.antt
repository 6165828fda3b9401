-- Specification, Writing a chart: the text that is written for notes at L lanes with a row count for each measure, told cell by cell, and what such
-- notes and counts must be. That reading it gives them back is in WrittenBack.antt, what the call answers in Entries.antt.
use Rattle.std.specs.Prelude.{Bool, true, false, if◌then◌else◌, ◌&&◌, ◌||◌, not, List, [], ◌∷◌, ℕ, zero, suc, ◌+◌, ◌-◌, ◌*◌, ◌/◌, ◌%◌, ◌==◌, nat_lt, nat_le, length, Result, Ok, Err, is_err}
use Rattle.std.specs.List.{list_any, list_all}
use Rattle.definitions.specs.Lists.{rises}
use Rattle.definitions.specs.Lines.{Row}
use Rattle.definitions.specs.Reduction.{reduce}
use Rattle.definitions.specs.Figures.{text_of}
use Rattle.definitions.specs.Records.{note_of_record}
use Rattle.definitions.specs.declared.Kind.{Kind}
use Rattle.definitions.specs.declared.Kind.TheVariants.{Tap, Hold, Roll, Mine, Lift, Fake}
use Rattle.definitions.specs.declared.Tail.{Tail}
use Rattle.definitions.specs.declared.Tail.TheVariants as tail
use Rattle.definitions.specs.declared.Note.{Note}
use Rattle.definitions.specs.declared.Refusal.{Refusal}

-- "A tap is a `1`, a hold's head a `2`, a roll's a `4`, a mine an `M`, a lift an `L`, a fake an `F`"
abbrev pub letter_of : Kind → ℕ
letter_of Tap = 49
letter_of Hold = 50
letter_of Roll = 52
letter_of Mine = 77
letter_of Lift = 76
letter_of Fake = 70

-- "A note is headed at its row and column": at row i and column c
abbrev pub headed : ℕ → ℕ → Note → Bool
headed i c n = n.row == i && n.column == c

-- a tail's row is row i
abbrev pub ends_at : ℕ → Tail → Bool
ends_at i tail.Without = false
ends_at i (tail.Row j) = j == i

-- "and tailed at its tail row and column."
abbrev pub tailed : ℕ → ℕ → Note → Bool
tailed i c n = ends_at i n.tail && n.column == c

-- The cell at row i and column c. "A cell is told by the first note that is headed or tailed there: its letter where it is headed there, else a
-- `3`. Where there is none, it is a `0`."
abbrev pub written_cell : List Note → ℕ → ℕ → ℕ
written_cell [] i c = 48
written_cell (n ∷ ns) i c = if headed i c n then letter_of n.kind else if tailed i c n then 51 else written_cell ns i c

-- "A row is L such cells": those of row i from column c on, so many
abbrev pub written_row : List Note → ℕ → ℕ → ℕ → Row
written_row ns i c zero = []
written_row ns i c (suc k) = written_cell ns i c ∷ written_row ns i (suc c) k

-- the rows from row i on, so many
abbrev pub written_rows : ℕ → List Note → ℕ → ℕ → List Row
written_rows L ns i zero = []
written_rows L ns i (suc n) = written_row ns i 0 L ∷ written_rows L ns (suc i) n

-- the measures from row i on, by their row counts
abbrev pub written_from : ℕ → List Note → ℕ → List ℕ → List (List Row)
written_from L ns i [] = []
written_from L ns i (n ∷ counts) = written_rows L ns i n ∷ written_from L ns (i + n) counts

-- "Each measure has as many rows as its count says, and rows are numbered through all measures."
unfoldable pub written_measures : ℕ → List Note → List ℕ → List (List Row)
written_measures L ns counts = written_from L ns 0 counts

-- "These measures are written as minimised rows are."
unfoldable pub written_text : ℕ → List Note → List ℕ → List ℕ
written_text L ns counts = text_of (written_measures L ns counts)

-- the rows of all measures together
abbrev pub sum_of : List ℕ → ℕ
sum_of [] = 0
sum_of (n ∷ counts) = n + sum_of counts

-- "L + 1 bytes for each row and 2 between two measures, so 0 where no count is given"
unfoldable pub written_length : ℕ → List ℕ → ℕ
written_length L counts = (L + 1) * sum_of counts + 2 * (length counts - 1)

-- a record's note before those of the records after it
abbrev pub note_and : Result Note Refusal → List Note → List Note
note_and (Ok n) ns = n ∷ ns
note_and (Err r) ns = ns

-- the notes of so many records from record k on
abbrev pub notes_from_record : List ℕ → ℕ → ℕ → List Note
notes_from_record s k zero = []
notes_from_record s k (suc n) = note_and (note_of_record s k) (notes_from_record s (suc k) n)

-- the notes of all records
unfoldable pub notes_in : List ℕ → List Note
notes_in s = notes_from_record s 0 (length s / 10)

-- 7: "the records' length is not a multiple of 10"
unfoldable pub uneven_records : List ℕ → Bool
uneven_records s = not (length s % 10 == 0)

-- one of so many records from record k on breaks a limit, so that it has no note
abbrev pub some_breaks : List ℕ → ℕ → ℕ → Bool
some_breaks s k zero = false
some_breaks s k (suc n) = is_err (note_of_record s k) || some_breaks s (suc k) n

-- 8: "the record breaks a limit of the writer; of `notes_to_chart` and `press_trace`, a record does"
unfoldable pub broken_records : List ℕ → Bool
broken_records s = some_breaks s 0 (length s / 10)

-- each column is below L
abbrev pub within_lanes : ℕ → List Note → Bool
within_lanes L ns = list_all (λ n. nat_lt n.column L) ns

-- 13: "a note does not stand before the next by row, then column, or a column is not below L"
unfoldable pub out_of_order : ℕ → List Note → Bool
out_of_order L ns = not (rises (λ n. n.row) (λ n. n.column) ns && within_lanes L ns)

-- "A note reaches from its row through its tail row, or its row alone": the last row that it reaches
abbrev pub last_of : ℕ → Tail → ℕ
last_of i tail.Without = i
last_of i (tail.Row j) = j

-- "Two notes meet if they stand in one column and reach a row in common."
abbrev pub meet : Note → Note → Bool
meet x y = x.column == y.column && (nat_le x.row (last_of y.row y.tail) && nat_le y.row (last_of x.row x.tail))

-- a note meets one of these
abbrev pub meets_one : Note → List Note → Bool
meets_one x ns = list_any (meet x) ns

-- 14: "two notes meet"
abbrev pub some_meet : List Note → Bool
some_meet [] = false
some_meet (x ∷ ns) = meets_one x ns || some_meet ns

-- there are none
abbrev pub none_given : List ℕ → Bool
none_given [] = true
none_given (n ∷ counts) = false

-- "a row or a tail row is not below" t
abbrev pub some_past : ℕ → List Note → Bool
some_past t ns = list_any (λ n. nat_le t (last_of n.row n.tail)) ns

-- minimising leaves fewer rows
abbrev pub shrinks : List Row → Bool
shrinks m = nat_lt (length (reduce m)) (length m)

-- "a measure could be minimised further"
abbrev pub some_shrink : List (List Row) → Bool
some_shrink ms = list_any shrinks ms

-- 15: "no count is given, a row or a tail row is not below the sum of the counts, or a measure could be minimised further"
unfoldable pub other_counts : ℕ → List Note → List ℕ → Bool
other_counts L ns counts = none_given counts || (some_past (sum_of counts) ns || some_shrink (written_measures L ns counts))
