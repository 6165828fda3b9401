-- Specification, Writing a chart: examples as one table with a single claim, `written-examples-hold`. In a text `|` is byte 10.
use Rattle.std.specs.Prelude.{◌≡◌, refl, List, [], ◌∷◌, map, ℕ, length, replicate, Result, Ok, Err}
use Prim.Native.String.{String}
use Rattle.definitions.specs.Lists.{joined}
use Rattle.definitions.specs.Lanes.{is_lane_count}
use Rattle.definitions.specs.Lines.{is_blank_byte, is_row_line, kind_of, line_kind}
use Rattle.definitions.specs.Measures.{chart}
use Rattle.definitions.specs.Cells.{cell_of}
use Rattle.definitions.specs.Reduction.{stride, reduce, minimised}
use Rattle.definitions.specs.Notes.{effect_at, notes}
use Rattle.definitions.specs.Records.{word, fields, encode, records, note_of, note_of_record}
use Rattle.definitions.specs.Refusals.{other_lanes, long_text, number_of, leaves}
use Rattle.definitions.specs.Written.{written_measures, written_text, written_length, notes_in, uneven_records, broken_records, out_of_order, other_counts}
use Rattle.definitions.specs.WrittenBack.{row_counts}
use Rattle.definitions.specs.Entries.{written_answer}
use Rattle.definitions.specs.declared.Refusal.{Refusal}
use Rattle.definitions.specs.declared.WrittenFigures.{WrittenFigures}
use Rattle.definitions.specs.Examples.{bytes}

-- what the call is lent, the text slice by its length, and what it answers: 0 and the text slice, or a refusal's number alone
pub record Example : Type 0 where
  pub lanes : ℕ
  pub given : List ℕ
  pub counts : List ℕ
  pub room : ℕ
  pub answer : List ℕ

abbrev pub told : Result WrittenFigures Refusal → List ℕ → List ℕ
told (Ok f) text = 0 ∷ text
told (Err r) text = number_of r ∷ []

-- what the definitions answer, where the slice holds 7 throughout
unfoldable pub told_of : Example → List ℕ
told_of e =
    let answer = written_answer e.lanes e.given e.counts (replicate e.room 7) in
    told answer (leaves 0 answer (written_text e.lanes (notes_in e.given) e.counts) (replicate e.room 7))

-- the tail field of a record without a tail
abbrev none : ℕ
none = 4294967295

-- at so many lanes, these records and counts are written as this text, into a slice of its length
abbrev pub writes : ℕ → List (List ℕ) → List ℕ → String → Example
writes L rs counts text = record { lanes = L; given = joined rs; counts = counts; room = length (bytes text); answer = 0 ∷ bytes text }

-- they are refused with this number, whatever room there is
abbrev pub refuses : ℕ → List (List ℕ) → List ℕ → ℕ → Example
refuses L rs counts number = record { lanes = L; given = joined rs; counts = counts; room = 100; answer = number ∷ [] }

-- the notes and row counts of this text, at 4 lanes, are written as that one
abbrev pub reads : String → String → Example
reads text back = writes 4 (records (notes 4 (bytes text)) ∷ []) (row_counts 4 (bytes text)) back

-- or refused with 15
abbrev pub reads_refused : String → Example
reads_refused text = refuses 4 (records (notes 4 (bytes text)) ∷ []) (row_counts 4 (bytes text)) 15

unfoldable pub table : List Example
table =
    -- every kind, a measure without rows, and rows numbered through all measures
    writes 4
    (fields 0 none 0 0 ∷ fields 0 2 1 1 ∷ fields 1 none 2 3 ∷ fields 1 3 3 2 ∷ fields 3 none 0 4 ∷ fields 3 none 2 5 ∷ [])
    (2 ∷ 0 ∷ 2 ∷ [])
    "1200|00M4|,|,|0300|L0F3|"
    ∷ writes 5 (fields 0 none 4 0 ∷ []) (1 ∷ []) "00001|"
    -- without notes: a count of 0, an odd one, and a measure without rows between two
    ∷ writes 4 [] (0 ∷ []) ""
    ∷ writes 4 [] (3 ∷ []) "0000|0000|0000|"
    ∷ writes 4 [] (1 ∷ 0 ∷ 1 ∷ []) "0000|,|,|0000|"
    -- a head right below a tail
    ∷ writes 4 (fields 0 1 0 1 ∷ fields 2 none 0 0 ∷ []) (3 ∷ []) "2000|3000|1000|"
    -- 12, 1, 7 and 8; the true sum of the counts is asked
    ∷ refuses 7 [] (1 ∷ []) 12
    ∷ refuses 4 [] (3355444 ∷ []) 1
    ∷ refuses 4 [] (858993460 ∷ 858993460 ∷ 858993460 ∷ 858993460 ∷ 858993460 ∷ []) 1
    ∷ refuses 4 ((0 ∷ []) ∷ []) (1 ∷ []) 7
    ∷ refuses 4 (fields 0 none 0 6 ∷ []) (1 ∷ []) 8
    ∷ refuses 4 (fields 0 none 0 1 ∷ []) (1 ∷ []) 8
    -- 13: a note does not stand before the next, or its column is not below L
    ∷ refuses 4 (fields 0 none 1 0 ∷ fields 0 none 0 0 ∷ []) (1 ∷ []) 13
    ∷ refuses 4 (fields 0 none 0 0 ∷ fields 0 none 0 0 ∷ []) (1 ∷ []) 13
    ∷ refuses 4 (fields 0 none 4 0 ∷ []) (1 ∷ []) 13
    -- 14: at a tail's row, and inside a hold
    ∷ refuses 4 (fields 0 2 0 1 ∷ fields 2 none 0 0 ∷ []) (3 ∷ []) 14
    ∷ refuses 4 (fields 0 2 0 1 ∷ fields 1 none 0 0 ∷ []) (3 ∷ []) 14
    ∷ refuses 4 (fields 0 2 0 2 ∷ fields 1 3 0 1 ∷ []) (4 ∷ []) 14
    -- 15: no count, a row or a tail row past them, and a measure that could be minimised
    ∷ refuses 4 [] [] 15
    ∷ refuses 4 (fields 1 none 0 0 ∷ []) (1 ∷ []) 15
    ∷ refuses 4 (fields 0 1 0 1 ∷ []) (1 ∷ []) 15
    ∷ refuses 4 [] (2 ∷ []) 15
    ∷ refuses 4 (fields 1 none 0 0 ∷ []) (1 ∷ 2 ∷ 1 ∷ []) 15
    -- the order: a later record that breaks a limit comes before two notes that meet, and these before the counts
    ∷ refuses 4 (fields 0 2 0 1 ∷ fields 1 none 0 0 ∷ fields 2 none 10 0 ∷ []) (3 ∷ []) 8
    ∷ refuses 4 (fields 0 2 0 1 ∷ fields 1 none 0 0 ∷ fields 1 none 0 0 ∷ []) (3 ∷ []) 13
    ∷ refuses 4 (fields 0 2 0 1 ∷ fields 1 none 0 0 ∷ []) [] 14
    -- 2 is last: a slice of 14 bytes is too short for 15
    ∷ record { lanes = 4; given = []; counts = 3 ∷ []; room = 14; answer = 2 ∷ [] }
    ∷ record { lanes = 4; given = fields 0 none 0 0; counts = 4 ∷ []; room = 0; answer = 15 ∷ [] }
    -- texts that come back
    ∷ reads "" ""
    ∷ reads "2000|0100|3000|;1000" "2000|0100|3000|"
    ∷ reads "1000|0000|,|,F4|40M0|00L0|3010" "1000|,|,|40M0|00L0|3010|"
    -- and what cannot: K, m, l, f and any other letter, a 3 that closes nothing, and a dropped head
    ∷ reads "K000" "0000|"
    ∷ reads "m0lf" "M0LF|"
    ∷ reads "x003" "0000|"
    ∷ reads "2000" "0000|"
    ∷ reads_refused "0000|K000"
    ∷ reads_refused "0000|3000"
    ∷ reads_refused "0000|2000"
    ∷ []

pub written-examples-hold : map told_of table ≡ map (λ (e : Example). e.answer) table
unfolding table told_of written_answer is_lane_count other_lanes long_text uneven_records broken_records out_of_order other_counts written_length written_text written_measures notes_in note_of_record note_of word row_counts records encode fields effect_at notes minimised reduce stride chart line_kind kind_of is_row_line is_blank_byte cell_of
written-examples-hold = refl
