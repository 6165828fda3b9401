-- Specification, SM files: examples of the blocks of a file, as one table with a single claim, `request-examples-hold`. In a file `|` is byte 10 and
-- `^` is byte 13.
use Rattle.std.specs.Prelude.{◌≡◌, refl, List, [], ◌∷◌, map, ℕ, Result, Ok, Err}
use Prim.Native.String.{String}
use Rattle.definitions.specs.Lists.{up_to, through, after}
use Rattle.definitions.specs.Lines.{is_blank_byte}
use Rattle.definitions.specs.Refusals.{long_text, number_of}
use Rattle.definitions.specs.SmFile.{SmPart, is_tagged, tag_of, notes_tag, block_text, block_end, starts_block, blocks_from, blocks, colons, data_of, type_of, lanes_of_type, sm_tag, sm_text, sm_lanes, sm_data, sm_start, sm_answer}
use Rattle.definitions.specs.declared.Refusal.{Refusal}
use Rattle.definitions.specs.Examples.{bytes}

-- One question to a file, and the answer.
pub record Example : Type 0 where
  pub file : String
  pub k : ℕ
  pub answer : List ℕ

-- 0, the lane count, where the data begins and the data, or a refusal's number alone
abbrev pub places_told : Result SmPart Refusal → List ℕ
places_told (Ok c) = 0 ∷ c.lanes ∷ c.start ∷ c.part
places_told (Err r) = number_of r ∷ []

-- what is answered for block k of a file
unfoldable pub sm_told : List ℕ → ℕ → List ℕ
sm_told file k = places_told (sm_answer file k)

-- block k of that file has so many lanes, and this data from that place on
abbrev pub chart : String → ℕ → ℕ → ℕ → String → Example
chart file k lanes start text = record { file = file; k = k; answer = 0 ∷ lanes ∷ start ∷ bytes text }

-- it is refused with this number
abbrev pub refused : String → ℕ → ℕ → Example
refused file k number = record { file = file; k = k; answer = number ∷ [] }

-- of SM files
unfoldable pub table : List Example
table =
    -- an empty file has no block
    refused "" 0 11
    -- "its `;` included where there is one"
    ∷ chart "#NOTES:dance-single:a:b:1:0,0:|1000|0100|;|" 0 4 30 "|1000|0100|;"
    ∷ chart "#NOTES:pump-double:::::|1" 0 10 23 "|1"
    -- a type of six lanes, and a name that is none
    ∷ chart "#NOTES:dance-solo:::::" 0 6 22 ""
    ∷ refused "#NOTES:dance-threepanel:::::" 0 10
    -- "past its blanks", and "without the blanks at its start and end": byte 10 is one of them, in the type's field alone
    ∷ chart "#TITLE:x;^| ^#NOTES:^|     pump-single ^:|:|:|:|:;" 0 5 49 ";"
    ∷ chart "#NOTES:|dance-single:::::" 0 4 25 ""
    ∷ refused "x #NOTES:dance-single:::::;" 0 11
    -- "unless that byte stands in an earlier block": a line that begins inside a block starts none, also where the block ends on it
    ∷ refused "#NOTES:a;#NOTES:b" 0 9
    ∷ refused "#NOTES:a;#NOTES:b" 1 11
    ∷ refused "#NOTES:a|#NOTES:b; #NOTES:c" 1 11
    ∷ chart "#NOTES:a|#NOTES:b;|#NOTES:dance-double:::::" 1 8 43 ""
    -- `//` is not known: a `;` in a comment ends the block
    ∷ chart "#NOTES:dance-single::::://;|1000;" 0 4 24 "//;"
    -- the order is 11, 9, 10
    ∷ refused "#NOTES:lights-cabinet::::;:" 0 9
    ∷ refused "#NOTES:lights-cabinet:::::;" 0 10
    ∷ refused "#NOTES:Dance-single:::::;" 0 10
    ∷ refused "#NOTES::::::;" 0 10
    ∷ refused "#NOTES:lights-cabinet:::::;" 1 11
    ∷ []

pub request-examples-hold : map (λ (e : Example). sm_told (bytes e.file) e.k) table ≡ map (λ (e : Example). e.answer) table
unfolding table sm_told sm_answer long_text sm_start sm_data sm_lanes sm_text sm_tag lanes_of_type type_of data_of colons blocks blocks_from starts_block block_end block_text notes_tag tag_of is_tagged after up_to through is_blank_byte
request-examples-hold = refl
