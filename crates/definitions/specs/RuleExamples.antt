-- Specification, Examples: R1 to R40, the second table, with a single claim, `rule-examples-hold`. "A second table, R1 to R40, is proved in the same
-- way: for each wrong rule of the list in `tests/rules` an example of the two tables fails." The answers are the Rust's, but for R28, of byte 13 among
-- a row's bytes, and R33 to R40, of records and refusals, which the Rust has not. In a text `|` is byte 10 and `^` is byte 13.
use Rattle.std.specs.Prelude.{◌≡◌, refl, List, [], ◌∷◌, ◌++◌, map, ℕ, replicate}
use Rattle.std.specs.Float.Ieee.{to_bits, of_int, round, add, mul, div}
use Rattle.definitions.specs.Lists.{joined}
use Rattle.definitions.specs.Lanes.{is_lane_count, most_rows_in}
use Rattle.definitions.specs.Refusals.{other_lanes, long_text, short_text, short_measures, short_beats, short_work, short_notes}
use Rattle.definitions.specs.Lines.{is_blank_byte, is_row_line, kind_of, line_kind}
use Rattle.definitions.specs.Cells.{cell_of}
use Rattle.definitions.specs.Measures.{chart}
use Rattle.definitions.specs.Reduction.{stride, reduce, minimised}
use Rattle.definitions.specs.Figures.{minimised_text, is_step, densities, spacings}
use Rattle.definitions.specs.Beats.{step, fused, beat_of_row, measure_beats, beats, beat, whole, last_row, row_to_beat}
use Rattle.definitions.specs.Objects.{object_at, last_object, last48, last_beat_of}
use Rattle.definitions.specs.Tracker.{hold_at, pairs}
use Rattle.definitions.specs.Notes.{effect_at, notes}
use Rattle.definitions.specs.Records.{word, fields, encode, records, note_of, note_of_record}
use Rattle.definitions.specs.Tally.{direction, row_sum_by, row_sum, tally_with_row, tally}
use Rattle.definitions.specs.Correction.{corrects, paired_only, corrected}
use Rattle.definitions.specs.ReadBack.{rows_read_back, main_tally, kept_tally}
use Rattle.definitions.specs.Judged.{judged_at, judged_sum, judge_row, open_before, judged_rows, judged_tally, flagged_tally}
use Rattle.definitions.specs.TimingRows.{timing_rows, timing_heads}
use Rattle.definitions.specs.Entries.{main_answer}
use Rattle.definitions.specs.Examples.{Example, steps, holds, holding, every, text, density, spacing, row_counts, beat_list, last, last_48ths, note_list, note_bytes, timing, timing_head, main, kept, judged, flagged, record_read, told, left_text, left_work, told_length, bytes, figure, whole_beat, ◌is◌, at, at4, given_by_definitions, said}

-- the number of no tail
abbrev pub none : ℕ
none = 4294967295

-- the counts of a tally in the order of `tally_fields`, without an arrow up-left or up-right
abbrev pub counts : ℕ → ℕ → ℕ → ℕ → ℕ → ℕ → ℕ → ℕ → ℕ → ℕ → ℕ → ℕ → ℕ → ℕ → ℕ → List ℕ
counts a l d u r s j h m ho ro li f hg k = a ∷ l ∷ d ∷ u ∷ r ∷ s ∷ j ∷ h ∷ m ∷ ho ∷ ro ∷ li ∷ f ∷ hg ∷ k ∷ 0 ∷ 0 ∷ []

-- a record's ten bytes: four of the row, four of the tail, the column and the kind
abbrev pub ten : ℕ → ℕ → ℕ → ℕ → ℕ → ℕ → ℕ → ℕ → ℕ → ℕ → List ℕ
ten r0 r1 r2 r3 t0 t1 t2 t3 c k = r0 ∷ r1 ∷ r2 ∷ r3 ∷ t0 ∷ t1 ∷ t2 ∷ t3 ∷ c ∷ k ∷ []

-- n lines 0000
abbrev pub zero_rows : ℕ → List ℕ
zero_rows n = joined (replicate n (bytes "0000|"))

-- R1 to R40
unfoldable pub table : List Example
table =
    -- R1: a row is the first L bytes; a 2 is a head of the timing rows
    at4 "00011|2000"
    ((text is bytes "0001|2000|")
    ∷ (main steps is 2 ∷ [])
    ∷ (timing_head is 1 ∷ [])
    ∷ [])
    -- R2: blanks (9, 12, 13, 32, not 11) are taken off at the head of a line and nowhere else; byte 13 cuts no line; a row is the first L bytes
    ∷ at 4 (9 ∷ 12 ∷ (bytes "^ 1000|" ++ (11 ∷ bytes "100|0100^|0010 x|0001^1000|010 ")))
    ((text is bytes "1000|" ++ (11 ∷ bytes "100|0100|0010|0001|010 |"))
    ∷ (judged every is counts 5 0 3 1 1 5 0 0 0 0 0 0 0 0 0)
    ∷ (timing is bytes "1000" ++ (11 ∷ bytes "100010000100001010 "))
    ∷ [])
    -- R3: `/`, `,` and `;` count at the head of a line alone, whatever follows them; a short line is none; `;` ends the reading, but not where
    -- rows are read back
    ∷ at4 "/100|1/00|//00|100|,1111|01;0|1,00|0/00|1000|;001|1000|,"
    ((text is bytes "1/00|,|01;0|1,00|0/00|1000|")
    ∷ (density is 1 ∷ 3 ∷ [])
    ∷ (judged every is counts 6 4 2 0 0 6 0 0 0 0 0 0 0 0 0)
    ∷ [])
    -- R4: a `,` ends a measure, and the text's end the last; a measure without rows writes nothing and has spacing
    ∷ at4 ","
    ((text is bytes ",|")
    ∷ (density is 0 ∷ 0 ∷ [])
    ∷ (spacing is 1 ∷ 1 ∷ [])
    ∷ (last is whole_beat 0)
    ∷ [])
    -- R5: the stride divides the row count, is the largest, a power of two, and has all rows off its multiples all zero; x and K are not; 0000
    -- stays where it is alone; notes, beats and timing rows go by minimised rows
    ∷ at4 "1000|0000|0000|0000|0000|0000|,|1000|0000|0000|0100|0000|0000|0000|0000|,|0x00|000x|,|1000|000K|,0000|,|0000|0000|0000|0000|0000|0000|0000|0000"
    ((text is bytes "1000|0000|0000|,|1000|0000|0000|0100|0000|0000|0000|0000|,|0x00|000x|,|1000|000K|,|,|0000|")
    ∷ (density is 1 ∷ 2 ∷ 0 ∷ 1 ∷ 0 ∷ 0 ∷ [])
    ∷ (spacing is 0 ∷ 0 ∷ 0 ∷ 0 ∷ 1 ∷ 0 ∷ [])
    ∷ (row_counts is 3 ∷ 8 ∷ 2 ∷ 2 ∷ 0 ∷ 1 ∷ [])
    ∷ (beat_list is 0 ∷ 1068149419 ∷ 1076538027 ∷ 1082130432 ∷ 1083179008 ∷ 1084227584 ∷ 1085276160 ∷ 1086324736 ∷ 1087373312 ∷ 1088421888 ∷ 1089470464 ∷ 1090519040 ∷ 1092616192 ∷ 1094713344 ∷ 1096810496 ∷ 1101004800 ∷ [])
    ∷ (last is whole_beat 14)
    ∷ (note_list is 0 ∷ none ∷ 0 ∷ 0 ∷ 3 ∷ none ∷ 0 ∷ 0 ∷ 6 ∷ none ∷ 1 ∷ 0 ∷ 13 ∷ none ∷ 0 ∷ 0 ∷ [])
    ∷ (timing is bytes "100000000000100000000000010000000000000000000x00000x1000000K0000")
    ∷ [])
    -- R6: the step is a 32-bit float, and the beat is rounded once, ties to even
    ∷ at4 ",|1000|0100|0010|0001|1000|,|1000|0100|0010|0001|1000|0100"
    ((beat_list is 1082130432 ∷ 1083808154 ∷ 1085485875 ∷ 1087163597 ∷ 1088841318 ∷ 1090519040 ∷ 1091218091 ∷ 1091917141 ∷ 1092616192 ∷ 1093315243 ∷ 1094014293 ∷ [])
    ∷ [])
    -- R7: 2, 4, m, l, f and other bytes make no object row; more beats that are rounded
    ∷ at4 "0000|m000|0l00|00f0|0002|4000|x000"
    ((last is whole_beat 0)
    ∷ (beat_list is 0 ∷ 1058162981 ∷ 1066551589 ∷ 1071345080 ∷ 1074940197 ∷ 1077336942 ∷ 1079733688 ∷ [])
    ∷ [])
    -- R8: m, l, f and other bytes leave the depth of the last beat and the tracker's stack as they are, and l is a judged arrow
    ∷ at4 "2000|m000|l000|f000|x000|3000"
    ((last_48ths is 160 ∷ [])
    ∷ (note_list is 1 ∷ none ∷ 0 ∷ 3 ∷ 2 ∷ none ∷ 0 ∷ 4 ∷ 3 ∷ none ∷ 0 ∷ 5 ∷ [])
    ∷ (main holds is 1 ∷ [])
    ∷ (judged every is counts 2 2 0 0 0 2 0 0 1 1 0 1 1 0 0)
    ∷ [])
    -- R9: 1, M, L and F make that depth 0, empty the tracker's stack and drop the open note; L is a judged arrow, and a mine is none
    ∷ at4 "2222|1MLF|3333"
    ((last_48ths is 64 ∷ [])
    ∷ (note_list is 1 ∷ none ∷ 0 ∷ 0 ∷ 1 ∷ none ∷ 1 ∷ 3 ∷ 1 ∷ none ∷ 2 ∷ 4 ∷ 1 ∷ none ∷ 3 ∷ 5 ∷ [])
    ∷ (main every is counts 1 1 0 0 0 2 0 0 1 0 0 1 1 0 0)
    ∷ (judged every is counts 2 1 0 1 0 1 1 0 1 0 0 1 1 0 0)
    ∷ (flagged (1 ∷ 1 ∷ 0 ∷ []) every is counts 2 1 0 1 0 1 1 0 1 0 0 1 1 0 0)
    ∷ [])
    -- R10: a 4 that is not paired is counted anew as nothing, but `total_steps` is kept; f is a fake
    ∷ at4 "34f0"
    ((main every is counts 0 0 0 0 0 1 0 0 0 0 0 0 1 0 0)
    ∷ (judged every is counts 0 0 0 0 0 0 0 0 0 0 0 0 1 0 0)
    ∷ (note_list is 0 ∷ none ∷ 2 ∷ 5 ∷ [])
    ∷ [])
    -- R11: a 3 takes the newest head off, lowers the depth by one and asks for one in its own column; the steps are kept; a 4 is no hold
    ∷ at4 "4442|0314|/000|0332"
    ((last_48ths is 64 ∷ [])
    ∷ (note_list is 0 ∷ 1 ∷ 1 ∷ 2 ∷ 1 ∷ none ∷ 2 ∷ 0 ∷ [])
    ∷ (main every is counts 2 0 1 1 0 3 0 0 0 0 1 0 0 0 0)
    ∷ (judged every is counts 2 0 1 1 0 2 0 0 0 0 1 0 0 0 0)
    ∷ (flagged (0 ∷ 1 ∷ []) every is counts 1 0 0 1 0 1 0 0 0 0 0 0 1 0 0)
    ∷ [])
    -- R12: five columns: the fifth is left
    ∷ at 5 (bytes "10042|40040|00431")
    ((main every is counts 3 2 0 0 1 3 0 0 0 0 1 0 0 0 0)
    ∷ (kept every is counts 3 2 0 0 1 3 0 0 0 0 1 0 0 0 0)
    ∷ (judged every is counts 3 2 0 0 1 3 0 0 0 0 1 0 0 0 0)
    ∷ (flagged (1 ∷ 0 ∷ []) every is counts 1 1 0 0 0 1 0 0 0 0 0 0 2 0 0)
    ∷ (told 18 10 3 3 150 is 0 ∷ [])
    ∷ [])
    -- R13: eight columns; depths go on through measures
    ∷ at 8 (bytes "21020020|,|30303040")
    ((text is bytes "21020020|,|30303040|")
    ∷ (density is 1 ∷ 1 ∷ [])
    ∷ (last_48ths is 192 ∷ [])
    ∷ (main every is counts 2 1 1 0 0 2 1 0 0 1 0 0 0 0 0)
    ∷ (judged every is counts 2 1 1 0 0 1 1 0 0 1 0 0 0 0 0)
    ∷ (flagged (1 ∷ 0 ∷ []) every is counts 2 1 1 0 0 1 1 0 0 1 0 0 0 0 0)
    ∷ (told 20 11 2 2 160 is 0 ∷ [])
    ∷ [])
    -- R14: holding and its floor; a tail that is not paired stays; a 2 drops an older head's note, a 0 does not; a judged hold is open through its
    -- tail's row, one of an unjudged row never; a flag 2 is judged
    ∷ at4 "2322|2030|2333|3222|0020|3020"
    ((note_list is 0 ∷ 1 ∷ 2 ∷ 1 ∷ 0 ∷ 2 ∷ 3 ∷ 1 ∷ 2 ∷ 3 ∷ 0 ∷ 1 ∷ [])
    ∷ (main every is counts 4 2 0 1 1 6 1 0 0 4 0 0 0 0 0)
    ∷ (judged every is counts 4 2 0 1 1 3 1 2 0 4 0 0 0 0 0)
    ∷ (flagged (2 ∷ 0 ∷ 1 ∷ []) every is counts 3 1 0 1 1 2 1 0 0 3 0 0 1 0 0)
    ∷ [])
    -- R15: ten columns: directions; every kind of note, and their order
    ∷ at 10 (bytes "0000111111|2M000l0L42|00F0f0m033|100K000000")
    ((note_list is 0 ∷ none ∷ 4 ∷ 0 ∷ 0 ∷ none ∷ 5 ∷ 0 ∷ 0 ∷ none ∷ 6 ∷ 0 ∷ 0 ∷ none ∷ 7 ∷ 0 ∷ 0 ∷ none ∷ 8 ∷ 0 ∷ 0 ∷ none ∷ 9 ∷ 0 ∷ 1 ∷ none ∷ 1 ∷ 3 ∷ 1 ∷ none ∷ 5 ∷ 4 ∷ 1 ∷ none ∷ 7 ∷ 4 ∷ 1 ∷ 2 ∷ 8 ∷ 2 ∷ 1 ∷ 2 ∷ 9 ∷ 1 ∷ 2 ∷ none ∷ 2 ∷ 5 ∷ 2 ∷ none ∷ 4 ∷ 5 ∷ 2 ∷ none ∷ 6 ∷ 3 ∷ 3 ∷ none ∷ 0 ∷ 0 ∷ [])
    ∷ (main every is counts 9 4 3 1 1 3 2 1 2 1 1 2 2 0 1)
    ∷ (judged every is counts 11 4 4 1 2 3 2 2 2 1 1 2 2 0 1)
    ∷ (flagged (0 ∷ 0 ∷ 1 ∷ []) every is counts 0 0 0 0 0 0 0 0 1 0 0 0 14 0 0)
    ∷ (told 44 23 4 4 400 is 0 ∷ [])
    ∷ [])
    -- R16: a ninth head is not pushed, so the judged tally has 8 holds; nested heads and a 1 in another column correct nothing, so the main tally
    -- has 9; depths go up to 9
    ∷ at4 "2000|2000|2000|2000|2000|2000|2000|2000|2100|3000|3000|3000|3000|3000|3000|3000|3000|3000"
    ((last_48ths is 181 ∷ [])
    ∷ (main every is counts 10 9 1 0 0 9 1 7 0 9 0 0 0 0 0)
    ∷ (judged every is counts 9 8 1 0 0 9 0 7 0 8 0 0 0 0 0)
    ∷ [])
    -- R17: K, m, l, f, 2 and 4 are not met, so nothing is corrected: else the main tally would lose the ninth head of column 0; they empty no
    -- stack; m, l, f and 4 drop a note
    ∷ at4 "2222|Kmlf|2000|2000|2000|2000|2000|2000|2000|4000|3333|3000|3000|3000|3000|3000|3000|3000|3000"
    ((density is 9 ∷ [])
    ∷ (note_list is 1 ∷ none ∷ 1 ∷ 3 ∷ 1 ∷ none ∷ 2 ∷ 4 ∷ 1 ∷ none ∷ 3 ∷ 5 ∷ 9 ∷ 10 ∷ 0 ∷ 2 ∷ [])
    ∷ (main every is counts 12 9 1 1 1 9 1 9 1 11 1 1 1 0 1)
    ∷ (judged every is counts 12 8 1 2 1 9 1 9 1 11 0 1 1 0 1)
    ∷ (flagged (1 ∷ 0 ∷ 1 ∷ []) every is counts 5 2 1 1 1 2 1 2 0 5 0 0 9 0 0)
    ∷ [])
    -- R18: M is met, and is an object
    ∷ at4 "2000|M000|3000"
    ((last_48ths is 64 ∷ [])
    ∷ (main every is counts 0 0 0 0 0 1 0 0 1 0 0 0 0 0 0)
    ∷ [])
    -- R19: F is met, and is an object; a 4 is a head of the timing rows
    ∷ at 5 (bytes "00004|0000F|00003")
    ((last_48ths is 64 ∷ [])
    ∷ (main every is counts 0 0 0 0 0 1 0 0 0 0 0 0 1 0 0)
    ∷ (timing_head is 1 ∷ [])
    ∷ [])
    -- R20: L is met, and is an object, but makes no density
    ∷ at 8 (bytes "00000002|0000000L|00000003")
    ((density is 1 ∷ [])
    ∷ (last_48ths is 64 ∷ [])
    ∷ (main every is counts 0 0 0 0 0 1 0 0 0 0 0 1 0 0 0)
    ∷ [])
    -- R21: 1 is met; another byte drops no note; the bytes of records
    ∷ at 10 (bytes "0000000042|000000001x|0000000033")
    ((note_list is 0 ∷ 2 ∷ 9 ∷ 1 ∷ 1 ∷ none ∷ 8 ∷ 0 ∷ [])
    ∷ (note_bytes is 0 ∷ 0 ∷ 0 ∷ 0 ∷ 2 ∷ 0 ∷ 0 ∷ 0 ∷ 9 ∷ 1 ∷ 1 ∷ 0 ∷ 0 ∷ 0 ∷ 255 ∷ 255 ∷ 255 ∷ 255 ∷ 8 ∷ 0 ∷ [])
    ∷ (main every is counts 2 1 1 0 0 2 0 0 0 1 0 0 0 0 0)
    ∷ [])
    -- R22: a 1 empties the whole stack of the tracker
    ∷ at4 "2000|2000|1000|3000|3000"
    ((main holds is 0 ∷ [])
    ∷ (judged holds is 0 ∷ [])
    ∷ [])
    -- R23: a phantom depth of 2 is 1 after a 3, and the 1 is met
    ∷ at4 "2000|2000|3000|1000|3000"
    ((main holds is 1 ∷ [])
    ∷ (judged holds is 1 ∷ [])
    ∷ [])
    -- R24: K, m, l and f reset no phantom depth, and the 1 is met
    ∷ at4 "2000|K000|m000|l000|f000|1000|3000"
    ((main holds is 0 ∷ [])
    ∷ (last_48ths is 137 ∷ [])
    ∷ [])
    -- R25: a phantom depth does not fall below 0, so one is left over
    ∷ at4 "3000|2000"
    ((main holds is 0 ∷ [])
    ∷ (main holding is 0 ∷ [])
    ∷ (note_list is [])
    ∷ [])
    -- R26: more tails than heads correct, so a ninth head is lost in both tallies; a depth does not fall below 0 before a 4
    ∷ at4 "3000|4000|4000|4000|4000|4000|4000|4000|4000|4000|3000|3000|3000|3000|3000|3000|3000|3000|3000"
    ((last_48ths is 182 ∷ [])
    ∷ (main every is counts 8 8 0 0 0 9 0 6 0 0 8 0 0 0 0)
    ∷ (kept every is counts 8 8 0 0 0 9 0 6 0 0 8 0 0 0 0)
    ∷ [])
    -- R27: a 3 and a 1 are no heads of the timing rows
    ∷ at4 "3000|1000"
    ((timing_head is 0 ∷ [])
    ∷ [])
    -- R28: the main tally is counted anew over the minimised text; reading back strips no blanks; a line with byte 13 as any of its first L bytes is
    -- no row
    ∷ at4 "2000| 0100|1^00|^010|00 ^|^^^^1|100^^"
    ((text is bytes "2000|0100|")
    ∷ (main every is counts 1 0 1 0 0 2 0 0 0 0 0 0 0 0 0)
    ∷ (judged every is counts 1 0 0 1 0 1 0 0 0 0 0 0 0 0 0)
    ∷ (timing is bytes "20000100")
    ∷ [])
    -- R29: a judged hand by mines and fakes under three holds; a plain hand needs a step, and counts the holds before its row, of 2 and 4
    ∷ at4 "2440|000M|000m|000F|000f|000K|3331"
    ((density is 2 ∷ [])
    ∷ (main every is counts 4 1 1 1 1 2 1 2 2 1 2 0 2 0 1)
    ∷ (judged every is counts 4 1 1 1 1 2 1 6 2 1 2 0 2 0 1)
    ∷ (flagged (1 ∷ 1 ∷ 1 ∷ 1 ∷ 1 ∷ 1 ∷ 0 ∷ []) every is counts 3 1 1 1 0 1 1 5 2 1 2 0 3 0 1)
    ∷ [])
    -- R30: what is a fake on an unjudged row: 1 L l M m F f and a paired head
    ∷ at4 "1LlM|mFf0|KxX5|2043|3000"
    ((main every is counts 2 2 0 0 0 2 0 0 2 1 0 2 2 0 1)
    ∷ (judged every is counts 4 2 1 1 0 2 1 1 2 1 0 2 2 0 1)
    ∷ (flagged (0 ∷ 0 ∷ 0 ∷ 0 ∷ 2 ∷ []) every is counts 0 0 0 0 0 0 0 0 0 0 0 0 8 0 0)
    ∷ [])
    -- R31: 48ths at a tie go to even, up: row 1 of 128 is at 1 and a half
    ∷ at 4 (bytes "0000|1000|" ++ zero_rows 126)
    ((last_48ths is 2 ∷ [])
    ∷ [])
    -- R32: and down: row 3 is at 4 and a half
    ∷ at 4 (bytes "0000|0000|0000|1000|" ++ zero_rows 124)
    ((last_48ths is 4 ∷ [])
    ∷ [])
    -- R33: a record: row, tail, column, kind, low byte first; its limits, and a record that is not there
    ∷ at 4
    (joined
    (ten 5 0 0 0 7 0 0 0 9 1
    ∷ ten 1 0 0 0 255 255 255 255 10 0
    ∷ ten 1 0 0 0 255 255 255 255 0 6
    ∷ ten 255 255 255 0 255 255 255 255 0 5
    ∷ ten 0 0 0 1 255 255 255 255 0 0
    ∷ ten 1 0 0 0 255 255 255 0 3 2
    ∷ ten 1 0 0 0 0 0 0 1 0 1
    ∷ ten 7 0 0 0 7 0 0 0 0 1
    ∷ ten 7 0 0 0 6 0 0 0 0 2
    ∷ ten 1 0 0 0 255 255 255 255 0 2
    ∷ ten 1 0 0 0 255 255 255 255 0 1
    ∷ ten 1 0 0 0 2 0 0 0 0 0
    ∷ ten 1 0 0 0 2 0 0 0 0 5
    ∷ []))
    ((record_read 0 is 0 ∷ 5 ∷ 7 ∷ 9 ∷ 1 ∷ [])
    ∷ (record_read 1 is 8 ∷ [])
    ∷ (record_read 2 is 8 ∷ [])
    ∷ (record_read 3 is 0 ∷ 16777215 ∷ none ∷ 0 ∷ 5 ∷ [])
    ∷ (record_read 4 is 8 ∷ [])
    ∷ (record_read 5 is 0 ∷ 1 ∷ 16777215 ∷ 3 ∷ 2 ∷ [])
    ∷ (record_read 6 is 8 ∷ [])
    ∷ (record_read 7 is 8 ∷ [])
    ∷ (record_read 8 is 8 ∷ [])
    ∷ (record_read 9 is 8 ∷ [])
    ∷ (record_read 10 is 8 ∷ [])
    ∷ (record_read 11 is 8 ∷ [])
    ∷ (record_read 12 is 8 ∷ [])
    ∷ (record_read 13 is 7 ∷ [])
    ∷ [])
    -- R34: the length is a multiple of 10
    ∷ at 4 (ten 5 0 0 0 7 0 0 0 9 1 ++ (0 ∷ [])) ((record_read 0 is 7 ∷ []) ∷ [])
    -- R35: refusals 1 to 6, in their order; zeros past the answer, and nothing where a call is refused
    ∷ at4 "1000|0100|0010|0001"
    ((told_length 16777215 is 0 ∷ [])
    ∷ (told_length 16777216 is 1 ∷ [])
    ∷ (told 20 11 4 4 160 is 0 ∷ [])
    ∷ (told 19 11 4 4 160 is 2 ∷ [])
    ∷ (told 20 10 4 4 160 is 3 ∷ [])
    ∷ (told 20 11 3 4 160 is 4 ∷ [])
    ∷ (told 20 11 4 3 160 is 5 ∷ [])
    ∷ (told 20 11 4 4 159 is 6 ∷ [])
    ∷ (told 19 10 3 3 159 is 2 ∷ [])
    ∷ (told 20 10 3 3 159 is 3 ∷ [])
    ∷ (told 20 11 3 3 159 is 4 ∷ [])
    ∷ (told 20 11 4 3 159 is 5 ∷ [])
    ∷ (left_text 22 11 4 5 160 is bytes "1000|0100|0010|0001|" ++ (0 ∷ 0 ∷ []))
    ∷ (left_text 22 11 4 5 159 is replicate 22 7)
    ∷ (left_work 22 11 4 5 160 is replicate 5 0)
    ∷ (left_work 22 11 4 5 159 is replicate 5 7)
    ∷ [])
    -- R36: six lanes are accepted
    ∷ at 6 (bytes "000000") ((told 7 4 1 1 60 is 0 ∷ []) ∷ [])
    -- R37 to R40: another lane number is refused, before anything else, and then nothing is written
    ∷ at 0 (bytes "1000")
    ((told 5 3 5 5 40 is 12 ∷ [])
    ∷ (told 0 0 0 0 0 is 12 ∷ [])
    ∷ (told_length 16777216 is 12 ∷ [])
    ∷ (left_text 5 3 5 5 40 is replicate 5 7)
    ∷ (left_work 5 3 5 5 40 is replicate 5 7)
    ∷ [])
    -- R38
    ∷ at 7 (bytes "1000000") ((told 8 5 1 1 70 is 12 ∷ []) ∷ [])
    -- R39
    ∷ at 9 (bytes "100000000") ((told 10 6 1 1 90 is 12 ∷ []) ∷ [])
    -- R40
    ∷ at 11 (bytes "10000000000") ((told 12 7 1 1 110 is 12 ∷ []) ∷ [])
    ∷ []

pub rule-examples-hold : map given_by_definitions table ≡ map said table
unfolding table figure is_lane_count other_lanes minimised_text densities spacings is_step beats measure_beats beat_of_row fused step beat whole last_row row_to_beat last_beat_of last48 last_object object_at notes effect_at records encode fields note_of_record note_of word main_answer long_text short_text short_measures short_beats short_work short_notes most_rows_in main_tally kept_tally judged_tally flagged_tally judged_rows judged_at open_before judge_row judged_sum corrected corrects paired_only pairs hold_at tally tally_with_row row_sum row_sum_by direction rows_read_back timing_rows timing_heads minimised reduce stride chart line_kind kind_of is_row_line is_blank_byte cell_of to_bits of_int round add mul div
rule-examples-hold = refl
