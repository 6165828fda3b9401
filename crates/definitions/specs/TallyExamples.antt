-- Specification, Examples: K1 to K5, S1 to S6 and F1 to F5, the third table, with a single claim, `tally-examples-hold`. "So is a third, K1 to K5 of
-- keysounds, S1 to S6 of six lanes and F1 to F5 of missing flags." In a text `|` is byte 10.
use Rattle.std.specs.Prelude.{◌≡◌, refl, List, [], ◌∷◌, map}
use Rattle.std.specs.Float.Ieee.{to_bits, of_int, round, add, mul, div}
use Rattle.definitions.specs.Lines.{is_blank_byte, is_row_line, kind_of, line_kind}
use Rattle.definitions.specs.Cells.{cell_of}
use Rattle.definitions.specs.Measures.{chart}
use Rattle.definitions.specs.Reduction.{stride, reduce, minimised}
use Rattle.definitions.specs.Figures.{minimised_text, is_step}
use Rattle.definitions.specs.Beats.{beat, whole, last_row, row_to_beat}
use Rattle.definitions.specs.Objects.{object_at, last_object, last48, last_beat_of}
use Rattle.definitions.specs.Tracker.{hold_at, pairs}
use Rattle.definitions.specs.Notes.{effect_at, notes}
use Rattle.definitions.specs.Tally.{direction, row_sum_by, row_sum, tally_with_row, tally}
use Rattle.definitions.specs.Correction.{corrects, paired_only, corrected}
use Rattle.definitions.specs.ReadBack.{rows_read_back, main_tally, kept_tally}
use Rattle.definitions.specs.Judged.{judged_at, judged_sum, judge_row, open_before, judged_rows, judged_tally, flagged_tally}
use Rattle.definitions.specs.RuleExamples.{counts}
use Rattle.definitions.specs.Examples.{Example, every, arrows, left, down, up, right, up_left, up_right, steps, holding, keys, last, note_list, main, kept, judged, flagged, figure, bytes, whole_beat, ◌is◌, at, at4, given_by_definitions, said}

-- K1 to K5, S1 to S6, F1 to F5
unfoldable pub table : List Example
table =
    -- K1: "cells K", in each tally; "A K is a keysound and is counted as nothing else."
    at4 "K000|K0K0|000K|0000"
    ((main keys is 4 ∷ [])
    ∷ (kept keys is 4 ∷ [])
    ∷ (judged keys is 4 ∷ [])
    ∷ (main arrows is 0 ∷ [])
    ∷ (main steps is 0 ∷ [])
    ∷ (last is whole_beat 2)
    ∷ [])
    -- K2: a k is an empty cell
    ∷ at4 "k000" ((main keys is 0 ∷ []) ∷ (judged keys is 0 ∷ []) ∷ [])
    -- K3: "In counting anew" the head is an empty cell, and its column keeps its K
    ∷ at4 "2000|1000|K000" ((main arrows is 1 ∷ []) ∷ (main keys is 1 ∷ []) ∷ (kept keys is 1 ∷ []) ∷ (judged keys is 1 ∷ []) ∷ [])
    -- K4: a K leaves the note of the hold that is open in its column, and what is held
    ∷ at4 "2000|K000|3000|0000"
    ((note_list is 0 ∷ 2 ∷ 0 ∷ 1 ∷ [])
    ∷ (main holding is 0 ∷ [])
    ∷ (main keys is 1 ∷ [])
    ∷ (kept keys is 1 ∷ [])
    ∷ (judged keys is 1 ∷ [])
    ∷ [])
    -- K5: "On an unjudged row each 1, L, l, M, m, F, f and paired head is one fake, and nothing else is counted."
    ∷ at4 "K000|K000"
    ((flagged (0 ∷ 1 ∷ []) keys is 1 ∷ [])
    ∷ (flagged (0 ∷ 0 ∷ []) keys is 0 ∷ [])
    ∷ (flagged (1 ∷ 1 ∷ []) keys is 2 ∷ [])
    ∷ [])
    -- S1: "at 6 lanes the columns are left, up-left, down, up, up-right, right"
    ∷ at 6 (bytes "100000|010000|001000|000100|000010|000001")
    ((main arrows is 6 ∷ [])
    ∷ (main left is 1 ∷ [])
    ∷ (main up_left is 1 ∷ [])
    ∷ (main down is 1 ∷ [])
    ∷ (main up is 1 ∷ [])
    ∷ (main up_right is 1 ∷ [])
    ∷ (main right is 1 ∷ [])
    ∷ (main steps is 6 ∷ [])
    ∷ [])
    -- S2: the same text at 4 lanes, which reads the first four bytes of each row
    ∷ at4 "100000|010000|001000|000100|000010|000001"
    ((main arrows is 4 ∷ [])
    ∷ (main left is 1 ∷ [])
    ∷ (main up_left is 0 ∷ [])
    ∷ (main down is 1 ∷ [])
    ∷ (main up is 1 ∷ [])
    ∷ (main up_right is 0 ∷ [])
    ∷ (main right is 1 ∷ [])
    ∷ (main steps is 4 ∷ [])
    ∷ [])
    -- S3: a column has its own direction, in each tally
    ∷ at 6 (bytes "010000")
    ((main up_left is 1 ∷ [])
    ∷ (kept up_left is 1 ∷ [])
    ∷ (judged up_left is 1 ∷ [])
    ∷ (flagged (1 ∷ []) up_left is 1 ∷ [])
    ∷ (flagged (0 ∷ []) up_left is 0 ∷ [])
    ∷ (main left is 0 ∷ [])
    ∷ [])
    -- S4: columns 2 and 4 are down and up-right, and not up and left as at 5 and 8 lanes
    ∷ at 6 (bytes "001010")
    ((main down is 1 ∷ [])
    ∷ (main up_right is 1 ∷ [])
    ∷ (judged down is 1 ∷ [])
    ∷ (judged up_right is 1 ∷ [])
    ∷ (main left is 0 ∷ [])
    ∷ (main up is 0 ∷ [])
    ∷ [])
    -- S5: a hold in the last column
    ∷ at 6 (bytes "000002|000003") ((note_list is 0 ∷ 1 ∷ 5 ∷ 1 ∷ []) ∷ (main right is 1 ∷ []) ∷ [])
    -- S6: no arrow of another layout is up-left or up-right
    ∷ at 8 (bytes "01001100")
    ((main up_left is 0 ∷ [])
    ∷ (main up_right is 0 ∷ [])
    ∷ (main left is 1 ∷ [])
    ∷ (main down is 2 ∷ [])
    ∷ [])
    -- F1: "A row past the flags is unjudged", without flags each row is, and with every row judged none
    ∷ at4 "1000|1000"
    ((flagged (1 ∷ []) every is counts 1 1 0 0 0 1 0 0 0 0 0 0 1 0 0)
    ∷ (flagged [] every is counts 0 0 0 0 0 0 0 0 0 0 0 0 2 0 0)
    ∷ (judged every is counts 2 2 0 0 0 2 0 0 0 0 0 0 0 0 0)
    ∷ [])
    -- F2: a head on a judged row counts, though its tail's row has no flag
    ∷ at4 "2000|0000|3000" ((flagged (1 ∷ []) every is counts 1 1 0 0 0 1 0 0 0 1 0 0 0 0 0) ∷ [])
    -- F3: two arrows under a hold are no hand where their row is unjudged
    ∷ at4 "2000|0110|3000" ((flagged (1 ∷ []) every is counts 1 1 0 0 0 1 0 0 0 1 0 0 2 0 0) ∷ [])
    -- F4: without flags a mine, a fake and a lift are fakes
    ∷ at4 "M000|F000|L000" ((flagged [] every is counts 0 0 0 0 0 0 0 0 0 0 0 0 3 0 0) ∷ [])
    -- F5: a missing flag is a flag 0, and flags past the rows say nothing
    ∷ at4 "1000|0100|0010"
    ((flagged (0 ∷ 1 ∷ []) every is counts 1 0 1 0 0 1 0 0 0 0 0 0 2 0 0)
    ∷ (flagged (0 ∷ 1 ∷ 0 ∷ 1 ∷ 1 ∷ []) every is counts 1 0 1 0 0 1 0 0 0 0 0 0 2 0 0)
    ∷ [])
    ∷ []

pub tally-examples-hold : map given_by_definitions table ≡ map said table
unfolding table figure minimised_text is_step beat whole last_row row_to_beat last_beat_of last48 last_object object_at notes effect_at main_tally kept_tally judged_tally flagged_tally judged_rows judged_at open_before judge_row judged_sum corrected corrects paired_only pairs hold_at tally tally_with_row row_sum row_sum_by direction rows_read_back minimised reduce stride chart line_kind kind_of is_row_line is_blank_byte cell_of to_bits of_int round add mul div
tally-examples-hold = refl
