-- Specification, Note records: ten bytes each, and reading one back with the refusals 7 and 8.
use Rattle.std.specs.Prelude.{if◌then◌else◌, List, [], ◌∷◌, ◌++◌, map, ℕ, ◌+◌, ◌*◌, ◌/◌, ◌%◌, ◌==◌, nat_lt, nat_le, length, slice_index, Result, Ok, Err}
use Rattle.definitions.specs.Sizes.{row_numbers_bound}
use Rattle.definitions.specs.Lists.{joined}
use Rattle.definitions.specs.declared.Kind.{Kind}
use Rattle.definitions.specs.declared.Kind.TheVariants.{Tap, Hold, Roll, Mine, Lift, Fake}
use Rattle.definitions.specs.declared.Tail.{Tail}
use Rattle.definitions.specs.declared.Tail.TheVariants.{Without, Row}
use Rattle.definitions.specs.declared.Note.{Note}
use Rattle.definitions.specs.declared.Refusal.{Refusal}
use Rattle.definitions.specs.declared.Refusal.TheVariants.{NoRecord, BadRecord}

-- a number below 2 ^ 32 as four bytes, "low byte first"
abbrev pub bytes4 : ℕ → List ℕ
bytes4 x = x % 256 ∷ x / 256 % 256 ∷ x / 65536 % 256 ∷ x / 16777216 % 256 ∷ []

-- the number of the four bytes at a place
unfoldable pub word : List ℕ → ℕ → ℕ
word s at = slice_index s at + 256 * slice_index s (at + 1) + 65536 * slice_index s (at + 2) + 16777216 * slice_index s (at + 3)

-- "0 tap, 1 hold, 2 roll, 3 mine, 4 lift, 5 fake"
abbrev pub number_of_kind : Kind → ℕ
number_of_kind Tap = 0
number_of_kind Hold = 1
number_of_kind Roll = 2
number_of_kind Mine = 3
number_of_kind Lift = 4
number_of_kind Fake = 5

-- "or 4,294,967,295 where there is none"
abbrev pub number_of_tail : Tail → ℕ
number_of_tail Without = 4294967295
number_of_tail (Row j) = j

-- "the row, low byte first", "the tail row, low byte first, or 4,294,967,295 where there is none", "the column", "the kind"
unfoldable pub fields : ℕ → ℕ → ℕ → ℕ → List ℕ
fields row tail column kind = bytes4 row ++ (bytes4 tail ++ (column ∷ kind ∷ []))

-- a note's ten bytes
unfoldable pub encode : Note → List ℕ
encode n = fields n.row (number_of_tail n.tail) n.column (number_of_kind n.kind)

-- "records stand back to back without a header"
unfoldable pub records : List Note → List ℕ
records ns = joined (map encode ns)

-- What the fields of a record give. "The writer makes only records with a column below 10, a kind below 6, and a row and a tail row below 16,777,216.
-- Of these kinds 1 and 2 have a tail row above their row, and the others have none." "the record breaks a limit of the writer"
abbrev pub plain_of : ℕ → ℕ → ℕ → Kind → Result Note Refusal
plain_of row tail column kind =
    if tail == 4294967295 then Ok (record { row = row; tail = Without; column = column; kind = kind }) else Err BadRecord

-- "Of these kinds 1 and 2 have a tail row above their row"
abbrev pub held_of : ℕ → ℕ → ℕ → Kind → Result Note Refusal
held_of row tail column kind =
    if nat_lt row tail then (if nat_lt tail row_numbers_bound then Ok (record { row = row; tail = Row tail; column = column; kind = kind }) else Err BadRecord)
    else Err BadRecord

-- Of any fields. "A note that is read back holds its row, column and kind, and either no tail or a tail row."
unfoldable pub note_of : ℕ → ℕ → ℕ → ℕ → Result Note Refusal
note_of row tail column kind =
    if nat_le 10 column then Err BadRecord
    else if nat_le row_numbers_bound row then Err BadRecord
    else if kind == 0 then plain_of row tail column Tap
    else if kind == 1 then held_of row tail column Hold
    else if kind == 2 then held_of row tail column Roll
    else if kind == 3 then plain_of row tail column Mine
    else if kind == 4 then plain_of row tail column Lift
    else if kind == 5 then plain_of row tail column Fake
    else Err BadRecord

-- 7: "the records' length is not a multiple of 10, or the record's number is not below length div 10"
unfoldable pub note_of_record : List ℕ → ℕ → Result Note Refusal
note_of_record s k =
    if length s % 10 == 0 then
    (if nat_lt k (length s / 10) then note_of (word s (k * 10)) (word s (k * 10 + 4)) (slice_index s (k * 10 + 8)) (slice_index s (k * 10 + 9))
    else Err NoRecord)
    else Err NoRecord
