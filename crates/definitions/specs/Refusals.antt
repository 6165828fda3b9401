-- Specification, Refusals and Slices: the refusals by their numbers, the conditions of 12 and 1 to 6, their order, and what a call leaves in what
-- it was lent. "A refusal's condition is looked at in those calls alone that are lent what it speaks of. No text is refused for what stands in it."
-- 7 and 8 are in Records.antt, 9 to 11 in SmFile.antt, 13 to 15 in Written.antt, 16 in Presses.antt, 19 and 20 in `chart_sheet`.
use Rattle.std.specs.Prelude.{Bool, if◌then◌else◌, List, [], ◌∷◌, ℕ, ◌+◌, ◌*◌, ◌/◌, ◌++◌, not, nat_lt, length, codes, Result, Ok, Err}
use Rattle.definitions.specs.Sizes.{most_bytes}
use Rattle.definitions.specs.Lists.{padded}
use Rattle.definitions.specs.Lanes.{is_lane_count, most_rows_in}
use Rattle.definitions.specs.declared.Refusal.{Refusal}
use Rattle.definitions.specs.declared.Refusal.TheVariants.{LongText, ShortText, ShortMeasures, ShortBeats, ShortWork, ShortNotes, NoRecord, BadRecord, FewFields, OtherType, NoChart, OtherLanes, OutOfOrder, NotesMeet, OtherCounts, BadTrace, ShortSheet, OtherForm}

-- "A refusal is a value of one type, and a definition gives each its number"
abbrev pub number_of : Refusal → ℕ
number_of LongText = 1
number_of ShortText = 2
number_of ShortMeasures = 3
number_of ShortBeats = 4
number_of ShortWork = 5
number_of ShortNotes = 6
number_of NoRecord = 7
number_of BadRecord = 8
number_of FewFields = 9
number_of OtherType = 10
number_of NoChart = 11
number_of OtherLanes = 12
number_of OutOfOrder = 13
number_of NotesMeet = 14
number_of OtherCounts = 15
number_of BadTrace = 16
number_of ShortSheet = 19
number_of OtherForm = 20

-- whose mistake a refusal is, as the table has it: "caused by"
abbrev pub cause_of : Refusal → List ℕ
cause_of LongText = codes "whoever wires up the call"
cause_of ShortText = codes "whoever wires up the call"
cause_of ShortMeasures = codes "whoever wires up the call"
cause_of ShortBeats = codes "whoever wires up the call"
cause_of ShortWork = codes "whoever wires up the call"
cause_of ShortNotes = codes "whoever wires up the call"
cause_of NoRecord = codes "whoever stores note records"
cause_of BadRecord = codes "whoever stores note records"
cause_of FewFields = codes "whoever writes the SM file"
cause_of OtherType = codes "whoever writes the SM file"
cause_of NoChart = codes "whoever asks for the chart"
cause_of OtherLanes = codes "whoever gives the lane number"
cause_of OutOfOrder = codes "whoever edits the notes"
cause_of NotesMeet = codes "whoever edits the notes"
cause_of OtherCounts = codes "whoever counts the rows"
cause_of BadTrace = codes "whoever records the trace"
cause_of ShortSheet = codes "whoever wires up the call"
cause_of OtherForm = codes "whoever wires up the call"

-- What is wrong. "The words in which a refusal is printed are those of `words_of` and `cause_of` of `Refusals`."
abbrev pub words_of : Refusal → List ℕ
words_of LongText = codes "the text or file, or the text to be written, is longer than the call takes"
words_of ShortText = codes "the text slice is shorter than the call needs"
words_of ShortMeasures = codes "the measure slice is shorter than the call needs"
words_of ShortBeats = codes "the beat slice is shorter than R"
words_of ShortWork = codes "the work slice is shorter than R"
words_of ShortNotes = codes "the note slice is shorter than 10 * L * R"
words_of NoRecord = codes "the records end in part of a record, or there is none of that number"
words_of BadRecord = codes "a record breaks a limit"
words_of FewFields = codes "the block has fewer than five fields"
words_of OtherType = codes "the chart has another type name"
words_of NoChart = codes "the file has no such block"
words_of OtherLanes = codes "the lane number is none of 4, 5, 6, 8 and 10"
words_of OutOfOrder = codes "a note does not stand before the next, or its column is not below L"
words_of NotesMeet = codes "two notes of a column meet"
words_of OtherCounts = codes "the row counts are not those of the notes, or a measure could be minimised"
words_of BadTrace = codes "the trace has part of a press, a column over 9, or a press that falls"
words_of ShortSheet = codes "the sheet slice is shorter than 42 * (len + 1) + 3000"
words_of OtherForm = codes "the form's number is over 2"

-- a refusal as it is printed
abbrev pub refusal_text : Refusal → List ℕ
refusal_text r = words_of r ++ (codes ", by " ++ cause_of r)

-- what a check answers: this refusal where the condition holds
abbrev pub refused_if : Bool → Refusal → Result Unit Refusal
refused_if t r = if t then Err r else Ok tt

-- 12: "the lane number is none of 4, 5, 6, 8 and 10"
unfoldable pub other_lanes : ℕ → Result Unit Refusal
other_lanes lanes = refused_if (not (is_lane_count lanes)) OtherLanes

-- 1: "the text or file, or the text to be written, is longer than the call takes"
unfoldable pub long_text : ℕ → Result Unit Refusal
long_text len = refused_if (nat_lt most_bytes len) LongText

-- 2: "the text slice is shorter than len + 1"
unfoldable pub short_text : ℕ → ℕ → Result Unit Refusal
short_text len room = refused_if (nat_lt room (len + 1)) ShortText

-- 3: "the measure slice, for densities or for spacing, is shorter than (len + 1) div 2 + 1"
unfoldable pub short_measures : ℕ → ℕ → Result Unit Refusal
short_measures len room = refused_if (nat_lt room ((len + 1) / 2 + 1)) ShortMeasures

-- 4: "the beat slice is shorter than R"
unfoldable pub short_beats : ℕ → ℕ → ℕ → Result Unit Refusal
short_beats L len room = refused_if (nat_lt room (most_rows_in L len)) ShortBeats

-- 5: "the work slice is shorter than R"
unfoldable pub short_work : ℕ → ℕ → ℕ → Result Unit Refusal
short_work L len room = refused_if (nat_lt room (most_rows_in L len)) ShortWork

-- 6: "the note slice, for note records or for the list, is shorter than 10 × L × R"
unfoldable pub short_notes : ℕ → ℕ → ℕ → Result Unit Refusal
short_notes L len room = refused_if (nat_lt room (10 * L * most_rows_in L len)) ShortNotes

-- "the number of the first of its refusals whose condition holds": the first check that refuses refuses the call; where none does, it is accepted and
-- answers x. So "a call's answer is such a refusal or its figures".
abbrev pub answered : {T : Type 0} → List (Result Unit Refusal) → T → Result T Refusal
answered [] x = Ok x
answered (Ok u ∷ checks) x = answered checks x
answered (Err r ∷ checks) x = Err r

-- "A call returns 0 if it is accepted", else its refusal's number.
abbrev pub number_told : {T : Type 0} → Result T Refusal → ℕ
number_told (Ok x) = 0
number_told (Err r) = number_of r

-- What a call leaves in a slice lent for writing that held `old`. "A refused call writes nothing." "After an accepted call every entry past the
-- answer in a slice lent for writing is 0": so the work slice, in which nothing is answered, is "0 throughout".
abbrev pub leaves : {A T : Type 0} → A → Result T Refusal → List A → List A → List A
leaves z (Ok x) answer old = padded z (length old) answer
leaves z (Err r) answer old = old

-- What a call leaves in the figures, or in the places of a note: an accepted call sets them all, by what it answers.
abbrev pub replaces : {T : Type 0} → Result T Refusal → (T → List ℕ) → List ℕ → List ℕ
replaces (Ok x) places old = places x
replaces (Err r) places old = old
