-- Examples of pad traces as one table with a single claim, `press-examples-hold`.
use Rattle.std.specs.Prelude.{◌≡◌, refl, List, [], ◌∷◌, ◌++◌, map, ℕ, replicate, Result, Ok, Err}
use Rattle.definitions.specs.Lists.{joined}
use Rattle.definitions.specs.Records.{word, fields, bytes4, note_of, note_of_record}
use Rattle.definitions.specs.Refusals.{number_of}
use Rattle.definitions.specs.Written.{notes_in, uneven_records, broken_records}
use Rattle.definitions.specs.Presses.{press_at, presses_in, hits, strays, misses, hits_in, misses_in, places_of_presses, bad_trace, press_answer}
use Rattle.definitions.specs.declared.Refusal.{Refusal}

-- note records and a trace, and what is answered: 0 and the 23 places, or a refusal's number alone
pub record Example : Type 0 where
  pub notes : List ℕ
  pub trace : List ℕ
  pub answer : List ℕ

-- a note of that row, tail row, column and kind
abbrev pub note : ℕ → ℕ → ℕ → ℕ → List ℕ
note row tail column kind = fields row tail column kind

-- a tap, and what has no tail
abbrev pub plain : ℕ → ℕ → ℕ → List ℕ
plain row column kind = note row 4294967295 column kind

-- a press at that row and column
abbrev pub press : ℕ → ℕ → List ℕ
press row column = bytes4 row ++ (column ∷ [])

abbrev pub places_told : Result (List ℕ) Refusal → List ℕ
places_told (Ok places) = 0 ∷ places
places_told (Err r) = number_of r ∷ []

-- what the definitions answer
unfoldable pub told_of : Example → List ℕ
told_of e = places_told (press_answer e.notes e.trace)

-- these records with that trace are answered by hits, strays, misses, and the hits and misses of the first four columns
abbrev pub counted : List (List ℕ) → List (List ℕ) → ℕ → ℕ → ℕ → List ℕ → List ℕ → Example
counted ns ps h s m hs ms =
    record { notes = joined ns; trace = joined ps; answer = 0 ∷ h ∷ s ∷ m ∷ ((hs ++ replicate 6 0) ++ (ms ++ replicate 6 0)) }

-- they are refused with this number
abbrev pub refused : List ℕ → List ℕ → ℕ → Example
refused ns ps number = record { notes = ns; trace = ps; answer = number ∷ [] }

unfoldable pub table : List Example
table =
    -- neither notes nor presses, no notes, no presses
    counted [] [] 0 0 0 (0 ∷ 0 ∷ 0 ∷ 0 ∷ []) (0 ∷ 0 ∷ 0 ∷ 0 ∷ [])
    ∷ counted [] (press 4294967295 9 ∷ []) 0 1 0 (0 ∷ 0 ∷ 0 ∷ 0 ∷ []) (0 ∷ 0 ∷ 0 ∷ 0 ∷ [])
    ∷ counted (plain 0 0 0 ∷ note 0 8 1 1 ∷ note 4 6 2 2 ∷ []) [] 0 0 3 (0 ∷ 0 ∷ 0 ∷ 0 ∷ []) (1 ∷ 1 ∷ 1 ∷ 0 ∷ [])
    -- one press on each of a tap, a hold and a roll
    ∷ counted (plain 0 0 0 ∷ note 0 8 1 1 ∷ note 4 6 2 2 ∷ []) (press 0 0 ∷ press 0 1 ∷ press 4 2 ∷ []) 3 0 0 (1 ∷ 1 ∷ 1 ∷ 0 ∷ []) (0 ∷ 0 ∷ 0 ∷ 0 ∷ [])
    -- "a second one on a note", one beside it, one a row late; a mine is no miss
    ∷ counted (plain 5 0 0 ∷ plain 5 1 3 ∷ plain 5 3 0 ∷ []) (press 5 0 ∷ press 5 0 ∷ press 5 2 ∷ press 6 3 ∷ []) 1 3 1 (1 ∷ 0 ∷ 0 ∷ 0 ∷ []) (0 ∷ 0 ∷ 0 ∷ 1 ∷ [])
    -- "one on a mine, lift or fake, one on a tail"
    ∷ counted (plain 0 0 3 ∷ plain 0 1 4 ∷ plain 0 2 5 ∷ note 0 2 3 1 ∷ []) (press 0 0 ∷ press 0 1 ∷ press 0 2 ∷ press 2 3 ∷ []) 0 4 1 (0 ∷ 0 ∷ 0 ∷ 0 ∷ []) (0 ∷ 0 ∷ 0 ∷ 1 ∷ [])
    -- 7, 8 and 13, whatever the trace is: "Of a list of records each is looked for in all of them before the next."
    ∷ refused (0 ∷ []) (0 ∷ []) 7
    ∷ refused (plain 1 0 0 ++ (plain 0 0 0 ++ plain 0 10 0)) (0 ∷ []) 8
    ∷ refused (plain 1 0 0 ++ plain 1 0 0) (0 ∷ []) 13
    ∷ refused (plain 1 1 0 ++ plain 1 0 0) [] 13
    -- 16: part of a press, a column over 9, and a press that falls in row, or in column within a row
    ∷ refused (plain 1 0 0) (0 ∷ []) 16
    ∷ refused (plain 1 0 0) (press 0 10) 16
    ∷ refused (plain 1 0 0) (press 1 0 ++ press 0 1) 16
    ∷ refused (plain 1 0 0) (press 1 1 ++ press 1 0) 16
    ∷ []

pub press-examples-hold : map told_of table ≡ map (λ (e : Example). e.answer) table
unfolding table told_of press_answer uneven_records broken_records notes_in bad_trace presses_in press_at places_of_presses hits strays misses hits_in misses_in word fields note_of note_of_record
press-examples-hold = refl
