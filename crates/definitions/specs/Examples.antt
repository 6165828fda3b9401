-- Specification, Examples: "P1 to P11 are proved of the definitions as one table with a single claim.", `examples-hold`. In a text `|` is byte 10 and
-- `^` is byte 13. The tables of RuleExamples.antt and TallyExamples.antt are of the same form.
use Rattle.std.specs.Prelude.{◌≡◌, refl, if◌then◌else◌, List, [], ◌∷◌, map, ℕ, ◌==◌, length, replicate, Result}
use Prim.Native.Char.{code}
use Prim.Native.String.{String, [] as end, ◌∷◌ as ◌then◌}
use Rattle.std.specs.Float.{binary32, binary64}
use Rattle.std.specs.Float.Ieee.{to_bits, of_int, round, add, mul, div}
use Rattle.definitions.specs.Lists.{number_of_bool, joined}
use Rattle.definitions.specs.Refusals.{number_told, leaves, replaces, answered, other_lanes, long_text}
use Rattle.definitions.specs.Lines.{Row, is_blank_byte, is_row_line, kind_of, line_kind}
use Rattle.definitions.specs.Cells.{cell_of}
use Rattle.definitions.specs.Measures.{chart}
use Rattle.definitions.specs.Reduction.{stride, reduce, minimised}
use Rattle.definitions.specs.Figures.{minimised_text, is_step, densities, spacings}
use Rattle.definitions.specs.Beats.{f32, f64, step, fused, beat_of_row, measure_beats, beats, beat, whole, last_row, row_to_beat}
use Rattle.definitions.specs.Objects.{object_at, last_object, last48, last_beat_of}
use Rattle.definitions.specs.Tracker.{hold_at, pairs}
use Rattle.definitions.specs.Notes.{effect_at, notes}
use Rattle.definitions.specs.Records.{records, note_of_record}
use Rattle.definitions.specs.Tally.{direction, row_sum_by, row_sum, tally_with_row, tally, tally_figures}
use Rattle.definitions.specs.Correction.{corrects, paired_only, corrected}
use Rattle.definitions.specs.ReadBack.{rows_read_back, main_tally, kept_tally}
use Rattle.definitions.specs.Judged.{judged_sum, judge_row, open_before, judged_rows, judged_tally, flagged_tally}
use Rattle.definitions.specs.TimingRows.{timing_rows, timing_heads}
use Rattle.definitions.specs.Entries.{figures_of_note, main_answer}
use Rattle.definitions.specs.declared.ArrowStats.{ArrowStats}
use Rattle.definitions.specs.declared.ChartFigures.{ChartFigures}
use Rattle.definitions.specs.declared.Refusal.{Refusal}

-- the bytes of a text in ASCII, `|` (124) for byte 10 and `^` (94) for byte 13
abbrev pub bytes : String → List ℕ
bytes end = []
bytes (◌then◌ c s) = (if code c == 124 then 10 else if code c == 94 then 13 else code c) ∷ bytes s

-- The fields of a tally that an example speaks of; `every` stands for all of them in their order.
pub data Field : Type 0 where
  arrows left down up right up_left up_right steps mines holds holding keys every : Field

-- the value of that field
abbrev pub field : Field → ArrowStats → List ℕ
field arrows t = t.total_arrows ∷ []
field left t = t.left ∷ []
field down t = t.down ∷ []
field up t = t.up ∷ []
field right t = t.right ∷ []
field up_left t = t.up_left ∷ []
field up_right t = t.up_right ∷ []
field steps t = t.total_steps ∷ []
field mines t = t.mines ∷ []
field holds t = t.holds ∷ []
field holding t = t.holding ∷ []
field keys t = t.keysounds ∷ []
field every t = tally_figures t

-- What an example speaks of. `row_counts` are the minimised rows of each measure; `note_list` has for each note its row, tail (4,294,967,295 for
-- none), column and kind, and `note_bytes` their records. `timing` are the timing rows, and `timing_head` says whether they have a 2 or 4.
-- `flagged` is the judged tally with these flags. `record_read` is what reading that record of the given bytes answers. `told` is the number that
-- the main call answers, and `left_text` and `left_work` are what it leaves, where the slices that it is lent have these lengths: text, measures,
-- beats, work, notes. `told_length` is the number that is answered to a text of that length where
-- no slice is lent.
pub data Figure : Type 0 where
  text density spacing row_counts beat_list last last_48ths note_list note_bytes timing timing_head : Figure
  main kept judged : Field → Figure
  flagged : List ℕ → Field → Figure
  record_read told_length : ℕ → Figure
  told left_text left_work : ℕ → ℕ → ℕ → ℕ → ℕ → Figure

-- what the main call answers that is lent slices of these lengths, 7 throughout
abbrev pub lent : ℕ → List ℕ → ℕ → ℕ → ℕ → ℕ → ℕ → Result ChartFigures Refusal
lent L s t m b w n = main_answer L s (replicate t 7) (replicate m 7) (replicate b (f32 7)) (replicate w 7) (replicate n 7)

-- that figure of a text at L lanes, in numbers; floats by their bits
unfoldable pub figure : Figure → ℕ → List ℕ → List ℕ
figure text L s = minimised_text L s
figure density L s = densities L s
figure spacing L s = spacings L s
figure row_counts L s = map (λ (m : List Row). length m) (minimised L s)
figure beat_list L s = map (to_bits binary32) (beats L s)
figure last L s = to_bits binary64 (last_beat_of L s) ∷ []
figure last_48ths L s = last48 L s ∷ []
figure note_list L s = joined (map figures_of_note (notes L s))
figure note_bytes L s = records (notes L s)
figure timing L s = timing_rows L s
figure timing_head L s = number_of_bool (timing_heads L s) ∷ []
figure (main f) L s = field f (main_tally L s)
figure (kept f) L s = field f (kept_tally L s)
figure (judged f) L s = field f (judged_tally L s)
figure (flagged flags f) L s = field f (flagged_tally L flags s)
figure (record_read k) L s = number_told (note_of_record s k) ∷ replaces (note_of_record s k) figures_of_note []
figure (told t m b w n) L s = number_told (lent L s t m b w n) ∷ []
figure (left_text t m b w n) L s = leaves 0 (lent L s t m b w n) (minimised_text L s) (replicate t 7)
figure (left_work t m b w n) L s = leaves 0 (lent L s t m b w n) [] (replicate w 7)
figure (told_length len) L s = number_told (answered (other_lanes L ∷ long_text len ∷ []) len) ∷ []

-- whole beats as the bits of 32-bit floats, and one as those of a 64-bit float
abbrev pub whole_beats : List ℕ → List ℕ
whole_beats ks = map (λ (k : ℕ). to_bits binary32 (f32 k)) ks

-- one whole beat as the bits of a 64-bit float
abbrev pub whole_beat : ℕ → List ℕ
whole_beat k = to_bits binary64 (f64 k) ∷ []

-- One thing that an example says, and an example.
pub record Says : Type 0 where
  pub of : Figure
  pub value : List ℕ

-- that figure has this value
infix 4 ◌is◌
abbrev pub ◌is◌ : Figure → List ℕ → Says
f is v = record { of = f; value = v }

-- a lane number, a text and what is said of it
pub record Example : Type 0 where
  pub lanes : ℕ
  pub given : List ℕ
  pub says : List Says

-- an example at this lane number
abbrev pub at : ℕ → List ℕ → List Says → Example
at n s says = record { lanes = n; given = s; says = says }

-- an example at 4 lanes
abbrev pub at4 : String → List Says → Example
at4 s says = at 4 (bytes s) says

-- P1 to P11
unfoldable pub table : List Example
table =
    -- P1
    at4 ""
    ((text is [])
    ∷ (density is 0 ∷ [])
    ∷ (spacing is 1 ∷ [])
    ∷ (beat_list is [])
    ∷ (last is whole_beat 0)
    ∷ [])
    -- P2
    ∷ at4 "0000|0000|0000|0000"
    ((row_counts is 1 ∷ [])
    ∷ (density is 0 ∷ [])
    ∷ (spacing is 0 ∷ [])
    ∷ (beat_list is whole_beats (0 ∷ []))
    ∷ [])
    -- P3
    ∷ at4 "0000|0000|0000|0000|0000|0000|0000|0000|0000|0000|0000|0000" ((row_counts is 3 ∷ []) ∷ [])
    -- P4
    ∷ at4 "1000|0000|0100|0000"
    ((text is bytes "1000|0100|")
    ∷ (density is 2 ∷ [])
    ∷ (spacing is 1 ∷ [])
    ∷ (beat_list is whole_beats (0 ∷ 2 ∷ []))
    ∷ (last is whole_beat 2)
    ∷ [])
    -- P5
    ∷ at4 "2000|3000"
    ((note_list is 0 ∷ 1 ∷ 0 ∷ 1 ∷ [])
    ∷ (last is whole_beat 2)
    ∷ (spacing is 0 ∷ [])
    ∷ [])
    -- P6
    ∷ at4 "2000|m000|3000|0000"
    ((note_list is 1 ∷ 4294967295 ∷ 0 ∷ 3 ∷ [])
    ∷ (main holds is 1 ∷ [])
    ∷ (main mines is 1 ∷ [])
    ∷ (last is whole_beat 2)
    ∷ [])
    -- P7
    ∷ at4 "2000|K000|3000|0000"
    ((note_list is 0 ∷ 2 ∷ 0 ∷ 1 ∷ [])
    ∷ (last is whole_beat 1)
    ∷ [])
    -- P8
    ∷ at4 "2000|2000|2000|2000|2000|2000|2000|2000|2000|3000|3000|3000|3000|3000|3000|3000|3000|3000"
    ((note_list is 8 ∷ 9 ∷ 0 ∷ 1 ∷ [])
    ∷ (main holds is 9 ∷ [])
    ∷ (judged holds is 8 ∷ [])
    ∷ [])
    -- P9
    ∷ at4 "100^|2000"
    ((text is bytes "2000|")
    ∷ (row_counts is 1 ∷ [])
    ∷ (main arrows is 0 ∷ [])
    ∷ (kept arrows is 0 ∷ [])
    ∷ (main steps is 1 ∷ [])
    ∷ (kept steps is 1 ∷ [])
    ∷ [])
    -- P10
    ∷ at4 "1000|,1111|0100" ((row_counts is 1 ∷ 1 ∷ []) ∷ [])
    -- P11
    ∷ at 5 (bytes "00001") ((main arrows is 1 ∷ []) ∷ (main left is 1 ∷ []) ∷ [])
    ∷ []

-- what the definitions give for an example, and what it says
abbrev pub given_by_definitions : Example → List (List ℕ)
given_by_definitions e = map (λ (s : Says). figure s.of e.lanes e.given) e.says

-- what an example says
abbrev pub said : Example → List (List ℕ)
said e = map (λ (s : Says). s.value) e.says

pub examples-hold : map given_by_definitions table ≡ map said table
unfolding table figure minimised_text densities spacings is_step beats measure_beats beat_of_row fused step beat whole last_row row_to_beat last_beat_of last48 last_object object_at notes effect_at main_tally kept_tally judged_tally judged_rows open_before judge_row judged_sum corrected corrects paired_only pairs hold_at tally tally_with_row row_sum row_sum_by direction rows_read_back minimised reduce stride chart line_kind kind_of is_row_line is_blank_byte cell_of to_bits of_int round add mul div
examples-hold = refl
