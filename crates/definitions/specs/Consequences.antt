-- What a reader expects of the main theorems, in other words. Each law follows from the statements of its theorems alone, and each field of each main
-- statement is used by one, so no part of a statement can say less unseen; only `LimitsSuffice` is of any notes, and `ExamplesCounted` of the tables.
-- proofs/Consequences.antt proves them.
use Rattle.std.specs.Prelude.{◌≡◌, ◌≢◌, ◌⊎◌, Bool, true, false, ◌&&◌, List, [], ◌∷◌, ◌++◌, map, filter, All, AllPairs, count_by, find, ℕ, suc, ◌+◌, ◌-◌, ◌*◌, ◌/◌, ◌%◌, ◌^◌, ◌≤◌, ◌<◌, ◌==◌, nat_lt, nat_le, length, take, drop, replicate, slice_get, slice_index_or, Option, Some, None, Ok, Float}
use Rattle.std.specs.List.{range_with_len}
use Rattle.std.specs.Float.{binary32}
use Rattle.std.specs.Float.Ieee.{mul}
use Rattle.std.specs.Float.Ieee.Exact.{HasValue}
use Rattle.std.specs.Float.Ieee.Positive.{num, den}
use Rattle.definitions.specs.Sizes.{most_bytes, row_numbers_bound}
use Rattle.definitions.specs.Lists.{among, joined, after}
use Rattle.definitions.specs.Lines.{Row}
use Rattle.definitions.specs.Cells.{byte_at}
use Rattle.definitions.specs.Reduction.{reduce, minimised}
use Rattle.definitions.specs.Figures.{minimised_text, densities, spacings}
use Rattle.definitions.specs.Beats.{f32, beat_of_row, measure_beats, beats, whole, last_row}
use Rattle.definitions.specs.Objects.{Place, last_object, last48}
use Rattle.definitions.specs.Notes.{notes}
use Rattle.definitions.specs.Records.{number_of_kind, number_of_tail, records, note_of_record}
use Rattle.definitions.specs.Correction.{head_count}
use Rattle.definitions.specs.ReadBack.{rows_read_back}
use Rattle.definitions.specs.Judged.{judged_at, judged_rows, judged_tally, flagged_tally}
use Rattle.definitions.specs.Refusals.{number_told, replaces}
use Rattle.definitions.specs.Entries.{figures_of_note, row_count, bits_of_last_beat, figures_of_chart, places_of_chart, figures_of_kept, places_of_kept, places_of_judged}
use Rattle.definitions.specs.WriterMakes.{Made}
use Rattle.definitions.specs.SmFile.{Tag, block_end, blocks, sm_tag, sm_data, sm_start, sm_number}
use Rattle.definitions.specs.Damage.{rows_above, rows_of, earlier, later, all_later, is_head, byte_in, head_kind, open_in}
use Rattle.definitions.specs.Dropped.{dropped_heads}
use Rattle.definitions.specs.DroppedOrNoted.{listed, noted, has_tail}
use Rattle.definitions.specs.DroppedStays.{earlier_drops, later_drops}
use Rattle.definitions.specs.Examples as texts
use Rattle.definitions.specs.RuleExamples as rules
use Rattle.definitions.specs.TallyExamples as tallies
use Rattle.definitions.specs.RequestExamples as requests
use Rattle.definitions.specs.DroppedExamples as lists
use Rattle.definitions.specs.declared.Tail.{Tail}
use Rattle.definitions.specs.declared.Tail.TheVariants.{Without, Row as to_row}
use Rattle.definitions.specs.declared.Note.{Note}
use Rattle.definitions.specs.declared.DropCause.{DropCause}
use Rattle.definitions.specs.declared.DropCause.TheVariants.{OtherHead, OtherCell, ChartEnd}

-- ---- Of damage: texts `old` and `new` at L lanes that differ only in lines of measure d

-- as many, and the same before place d and after it
abbrev pub SameAround : {A : Type 0} → ℕ → List A → List A → Type 0
SameAround d s t = (length s ≡ length t) × (take d s ≡ take d t) × (drop (suc d) s ≡ drop (suc d) t)

-- the measures before d are the same and so are those after it: their minimised rows, row beats, densities and spacings
abbrev pub MeasuresAround : ℕ → ℕ → List ℕ → List ℕ → Type 0
MeasuresAround L d old new =
    SameAround d (minimised L old) (minimised L new)
    × SameAround d (measure_beats L old) (measure_beats L new)
    × SameAround d (densities L old) (densities L new)
    × SameAround d (spacings L old) (spacings L new)

-- a tail n rows further down
abbrev pub tail_down : ℕ → Tail → Tail
tail_down n Without = Without
tail_down n (to_row j) = to_row (j + n)

-- The notes headed in later measures: the columns of the old text's are, as a list, those of the new text's, and so are the kinds; and so are the
-- rows and the tails, where those of each text are moved down by as many rows as d has in the other.
abbrev pub LaterNotes : ℕ → ℕ → List ℕ → List ℕ → Type 0
LaterNotes L d old new =
    let a = length (rows_of L d old) in
    let b = length (rows_of L d new) in
    (map (λ x. x.column) (later L d old) ≡ map (λ x. x.column) (later L d new))
    × (map (λ x. x.kind) (later L d old) ≡ map (λ x. x.kind) (later L d new))
    × (map (λ x. x.row + b) (later L d old) ≡ map (λ x. x.row + a) (later L d new))
    × (map (λ x. tail_down b x.tail) (later L d old) ≡ map (λ x. tail_down a x.tail) (later L d new))

-- where no head is open where d begins, the notes headed before d are the same
abbrev pub NothingOpen : ℕ → ℕ → List ℕ → List ℕ → Type 0
NothingOpen L d old new = ((i c : ℕ) → open_in (rows_above L d old) i c ≡ false) → earlier L d old ≡ earlier L d new

-- no tail, or one before row s
abbrev pub tail_before : ℕ → Tail → Bool
tail_before s Without = true
tail_before s (to_row j) = nat_lt j s

-- a note that lies before row s: its head, and its tail if it has one
abbrev pub lies_before : ℕ → Note → Bool
lies_before s x = nat_lt x.row s && tail_before s x.tail

-- the notes that lie before d are the same, whatever is open there
abbrev pub NotesBefore : ℕ → ℕ → List ℕ → List ℕ → Type 0
NotesBefore L d old new =
    filter (lies_before (length (rows_above L d old))) (notes L old) ≡ filter (lies_before (length (rows_above L d new))) (notes L new)

-- a tail in one of the first n rows
abbrev pub tail_within : ℕ → Tail → Bool
tail_within n Without = false
tail_within n (to_row j) = nat_lt j n

-- what is headed at row i and column c in each text, where a head is open there, is one note at most, of that head's kind and with its tail in a row
-- of the text
abbrev pub OpenHeads : ℕ → ℕ → List ℕ → List ℕ → Type 0
OpenHeads L d old new =
    (i c : ℕ)
    → open_in (rows_above L d old) i c ≡ true
    → (text : List ℕ)
    → (text ≡ old) ⊎ (text ≡ new)
    → let here = filter (λ x. x.row == i && x.column == c) (notes L text) in
    (length here ≤ 1)
    × All (λ x. (x.kind ≡ head_kind (byte_in (rows_above L d old) i c)) × (tail_within (row_count L text) x.tail ≡ true)) here

-- the first 1, 3, M, L, F or K in column c of rows
abbrev pub first_met : ℕ → List Row → Option ℕ
first_met c rows = find (λ b. among b (49 ∷ 51 ∷ 77 ∷ 76 ∷ 70 ∷ 75 ∷ [])) (map (byte_at c) rows)

-- where the later measures have one of these, and the first in none of their columns is a 3 (51), the last beat has the same bits, and in 48ths it is
-- the same
abbrev pub SameLastBeat : ℕ → ℕ → List ℕ → List ℕ → Type 0
SameLastBeat L d old new =
    ((c : ℕ) → first_met c (all_later L d old) ≢ Some 51)
    → (c : ℕ)
    → first_met c (all_later L d old) ≢ None
    → (bits_of_last_beat L old ≡ bits_of_last_beat L new) × (last48 L old ≡ last48 L new)

-- ---- Of dropped heads

-- at each place with a head one head is listed and no note has it, or none is listed and one note has it; and nothing but heads is listed
abbrev pub ListedExactly : ℕ → List ℕ → Type 0
ListedExactly L text =
    ((i c : ℕ)
    → is_head (byte_in (joined (minimised L text)) i c) ≡ true
    → let heads = listed i c (dropped_heads L text) in
    let records = noted i c (notes L text) in
    ((heads ≡ 1) × (records ≡ 0)) ⊎ ((heads ≡ 0) × (records ≡ 1)))
    × ((i c : ℕ) → 1 ≤ listed i c (dropped_heads L text) → is_head (byte_in (joined (minimised L text)) i c) ≡ true)

-- the notes with a tail are no more than the heads, and those heads that are left are as many as are listed
abbrev pub HeadsShared : ℕ → List ℕ → Type 0
HeadsShared L text =
    let heads = head_count (joined (minimised L text)) in
    let held = count_by (λ n. has_tail n.tail) (notes L text) in
    (held ≤ heads) × (length (dropped_heads L text) ≡ heads - held)

-- of any two listed heads the later one stands in a later row, or in the same row in a later column
abbrev pub ListRises : ℕ → List ℕ → Type 0
ListRises L text = AllPairs (λ x y. (x.row < y.row) ⊎ ((x.row ≡ y.row) × (x.column < y.column))) (dropped_heads L text)

-- what dropped a head, n rows further down
abbrev pub cause_down : ℕ → DropCause → DropCause
cause_down n (OtherHead j) = OtherHead (j + n)
cause_down n (OtherCell j) = OtherCell (j + n)
cause_down n ChartEnd = ChartEnd

-- The heads listed in later measures: their columns are the same list in both texts, and so are the rows and the causes, where those of each text are
-- moved down by as many rows as d has in the other.
abbrev pub LaterDrops : ℕ → ℕ → List ℕ → List ℕ → Type 0
LaterDrops L d old new =
    let a = length (rows_of L d old) in
    let b = length (rows_of L d new) in
    (map (λ x. x.column) (later_drops L d old) ≡ map (λ x. x.column) (later_drops L d new))
    × (map (λ x. x.row + b) (later_drops L d old) ≡ map (λ x. x.row + a) (later_drops L d new))
    × (map (λ x. cause_down b x.cause) (later_drops L d old) ≡ map (λ x. cause_down a x.cause) (later_drops L d new))

-- a head that a row before row s dropped
abbrev pub dropped_before : ℕ → DropCause → Bool
dropped_before s (OtherHead j) = nat_lt j s
dropped_before s (OtherCell j) = nat_lt j s
dropped_before s ChartEnd = false

-- where no head is open where d begins, the heads listed before d are the same; and those that a row before d dropped are the same, whatever is open
abbrev pub EarlierDrops : ℕ → ℕ → List ℕ → List ℕ → Type 0
EarlierDrops L d old new =
    (((i c : ℕ) → open_in (rows_above L d old) i c ≡ false) → earlier_drops L d old ≡ earlier_drops L d new)
    × (filter (λ x. dropped_before (length (rows_above L d old)) x.cause) (earlier_drops L d old)
    ≡ filter (λ x. dropped_before (length (rows_above L d new)) x.cause) (earlier_drops L d new))

-- dropped by one of the first n rows, or by the chart's end
abbrev pub dropped_within : ℕ → DropCause → Bool
dropped_within n (OtherHead j) = nat_lt j n
dropped_within n (OtherCell j) = nat_lt j n
dropped_within n ChartEnd = true

-- where a head is open at row i and column c, one head at most is listed there in each text, dropped by a row of the text or by its end
abbrev pub OpenDrops : ℕ → ℕ → List ℕ → List ℕ → Type 0
OpenDrops L d old new =
    (i c : ℕ)
    → open_in (rows_above L d old) i c ≡ true
    → (text : List ℕ)
    → (text ≡ old) ⊎ (text ≡ new)
    → let here = filter (λ x. x.row == i && x.column == c) (dropped_heads L text) in
    (length here ≤ 1) × All (λ x. dropped_within (row_count L text) x.cause ≡ true) here

-- ---- Of minimising, and of what is read back

-- what is minimised stays as it is
unfoldable pub ReducedStays : Type 0
ReducedStays = (rs : List Row) → reduce (reduce rs) ≡ reduce rs

-- the judged tallies of a chart's minimised text count the chart's own minimised rows
unfoldable pub JudgedAgain : Type 0
JudgedAgain =
    (L : ℕ) (text flags : List ℕ)
    → 1 ≤ L
    → (judged_tally L (minimised_text L text) ≡ judged_rows L (λ i. true) (joined (minimised L text)))
    × (flagged_tally L flags (minimised_text L text) ≡ judged_rows L (judged_at flags) (joined (minimised L text)))

-- ---- Of tallies, by their places among the figures

-- from place 8 on the main call and the kept-row call answer the same
unfoldable pub SameTallies : Type 0
SameTallies =
    (L : ℕ) (text : List ℕ) → drop 8 (places_of_chart (figures_of_chart L text)) ≡ drop 8 (places_of_kept (figures_of_kept L text))

-- places 9 to 12, 23 and 24, the six directions, together are place 8, all arrows
abbrev pub PlacesAdd : List ℕ → Type 0
PlacesAdd f =
    let at = λ (i : ℕ). slice_index_or f i 0 in
    at 9 + at 10 + at 11 + at 12 + at 23 + at 24 ≡ at 8

-- so it is in every call that answers a tally
abbrev pub ArrowsAdd : ℕ → List ℕ → List ℕ → Type 0
ArrowsAdd L text flags =
    PlacesAdd (places_of_chart (figures_of_chart L text))
    × PlacesAdd (places_of_kept (figures_of_kept L text))
    × PlacesAdd (places_of_judged (judged_tally L text))
    × PlacesAdd (places_of_judged (flagged_tally L flags text))

-- ---- Of flags

-- where all flags from place n on are 0, the first n give the same figures
unfoldable pub LastZeros : Type 0
LastZeros =
    (L n : ℕ) (flags text : List ℕ)
    → All (λ f. f ≡ 0) (drop n flags)
    → places_of_judged (flagged_tally L (take n flags) text) ≡ places_of_judged (flagged_tally L flags text)

-- where each row has a flag, the flags that follow say nothing,
unfoldable pub FlagsPastRows : Type 0
FlagsPastRows =
    (L : ℕ) (flags more text : List ℕ)
    → length (rows_read_back L text) ≤ length flags
    → places_of_judged (flagged_tally L (flags ++ more) text) ≡ places_of_judged (flagged_tally L flags text)

-- and where none is 0, the figures are those with every row judged
unfoldable pub EachRowJudged : Type 0
EachRowJudged =
    (L : ℕ) (flags text : List ℕ)
    → length (rows_read_back L text) ≤ length flags
    → All (λ f. 1 ≤ f) flags
    → places_of_judged (flagged_tally L flags text) ≡ places_of_judged (judged_tally L text)

-- without flags every place is 0 but place 20, the fakes
unfoldable pub FakesAlone : Type 0
FakesAlone =
    (L : ℕ) (text : List ℕ)
    → let f = places_of_judged (flagged_tally L [] text) in (take 20 f ≡ replicate 20 0) × (drop 21 f ≡ replicate 11 0)

-- ---- Of how near the beats are

-- the float x is finite and not negative, and x and 4 × m + 4 × r / n lie within e / k of one another
abbrev pub NearFraction : ℕ → ℕ → ℕ → ℕ → ℕ → Float → Type 0
NearFraction e k m r n x =
    HasValue x false (num x) (den x)
    × (k * (num x * n) ≤ k * ((4 * m * n + 4 * r) * den x) + e * (den x * n))
    × (k * ((4 * m * n + 4 * r) * den x) ≤ k * (num x * n) + e * (den x * n))

-- The beat of row r of n in measure m: below measure 1,024 within 1/4096, and to spare 1/8176; below measure 2^j within (2^j + 2) / 2^23; and below
-- measure 1,024, where n divides 192, times 48, rounded, the whole number 192 × m + 192 / n × r.
abbrev pub RowNear : ℕ → ℕ → ℕ → Type 0
RowNear m r n =
    let x = beat_of_row m r n in
    (m < 1024 → NearFraction 1 4096 m r n x)
    × (m < 1024 → NearFraction 1 8176 m r n x)
    × ((j : ℕ) → j < 24 → m < 2 ^ j → NearFraction (2 ^ j + 2) (2 ^ 23) m r n x)
    × (m < 1024 → 192 % n ≡ 0 → whole (mul binary32 x (f32 48)) ≡ 192 * m + 192 / n * r)

-- so it is of each row of each measure with no more rows than a text can have
unfoldable pub PlacesNear : Type 0
PlacesNear = (m r n : ℕ) → r < n → n ≤ 3355443 → RowNear m r n

-- A text has as many beats as rows, and at the place of row r of the n rows of its measure m stands the beat of that very row, which is near so; and
-- every measure that has rows is below 2^23.
unfoldable pub RowsNear : Type 0
RowsNear =
    (L : ℕ) (text : List ℕ)
    → 4 ≤ L
    → length text ≤ most_bytes
    → (length (beats L text) ≡ row_count L text)
    × ((m r : ℕ)
    → let n = length (rows_of L m text) in
    r < n
    → (slice_get (beats L text) (length (rows_above L m text) + r) ≡ Some (beat_of_row m r n)) × (m < 2 ^ 23) × RowNear m r n)

-- how far two whole numbers are apart
abbrev pub apart : ℕ → ℕ → ℕ
apart a b = (a - b) + (b - a)

-- no whole number k is nearer to 192 × m + 192 × r / n than x is
abbrev pub NoneNearer : ℕ → ℕ → ℕ → ℕ → Type 0
NoneNearer x m r n = (k : ℕ) → apart (x * n) (192 * m * n + 192 * r) ≤ apart (k * n) (192 * m * n + 192 * r)

-- so it is of the last beat in 48ths at each place that an accepted text can have,
unfoldable pub LastPlaces : Type 0
LastPlaces = (m r n : ℕ) → r < n → 5 * n + 2 * m ≤ 16777216 → NoneNearer (last_row m r n) m r n

-- and of a text's, where its last object row is row r of the n rows of its measure m
unfoldable pub LastOfTexts : Type 0
LastOfTexts =
    (L : ℕ) (text : List ℕ)
    → 4 ≤ L
    → length text ≤ most_bytes
    → (p : Place)
    → last_object L text ≡ Some p
    → let n = length (rows_of L p.m text) in (p.r < n) × NoneNearer (last48 L text) p.m p.r n

-- ---- Of the note records of an accepted text

-- reading record after record gives the notes in their order
abbrev pub RecordsRead : List Note → Type 0
RecordsRead ns = map (note_of_record (records ns)) (range_with_len 0 (length ns)) ≡ map Ok ns

-- the call answers 0 each time, and the places that it is lent hold the note, whatever they held
abbrev pub RecordsTold : List Note → Type 0
RecordsTold ns =
    (old : List ℕ)
    → (map (λ k. number_told (note_of_record (records ns) k)) (range_with_len 0 (length ns)) ≡ replicate (length ns) 0)
    × (map (λ k. replaces (note_of_record (records ns) k) figures_of_note old) (range_with_len 0 (length ns)) ≡ map figures_of_note ns)

-- the places of a note: row, tail, column and kind are in range; of kinds 1 and 2 the tail is a row after the note's, of the others 4,294,967,295
abbrev pub NotesInRange : List Note → Type 0
NotesInRange ns =
    All (λ n. n.row < row_numbers_bound) ns
    × All (λ n. among (number_of_kind n.kind) (1 ∷ 2 ∷ []) ≡ true → (n.row < number_of_tail n.tail) × (number_of_tail n.tail < row_numbers_bound)) ns
    × All (λ n. among (number_of_kind n.kind) (1 ∷ 2 ∷ []) ≡ false → number_of_tail n.tail ≡ 4294967295) ns
    × All (λ n. n.column < 10) ns
    × All (λ n. number_of_kind n.kind < 6) ns

-- any notes that keep the limits are read back so, whether or not a text has them
unfoldable pub LimitsSuffice : Type 0
LimitsSuffice = (ns : List Note) → All Made ns → RecordsRead ns

-- of each text that no call refuses for its length, at every L from 1 to 10
unfoldable pub RecordsOfTexts : Type 0
RecordsOfTexts =
    (L : ℕ)
    → 1 ≤ L
    → L ≤ 10
    → (text : List ℕ)
    → length text ≤ most_bytes
    → let ns = notes L text in RecordsRead ns × RecordsTold ns × NotesInRange ns

-- ---- Of the blocks of an SM file

-- the bytes of the file from the place on that is answered are the data
unfoldable pub DataThere : Type 0
DataThere = (file : List ℕ) (k : ℕ) → take (length (sm_data file k)) (drop (sm_start file k) file) ≡ sm_data file k

-- the data holds one `;` (59) at most, and nothing follows it there
unfoldable pub OneSemicolon : Type 0
OneSemicolon = (file : List ℕ) (k : ℕ) → (count_by (λ b. b == 59) (sm_data file k) ≤ 1) × (after 59 (sm_data file k) ≡ [])

-- a file has no more blocks than bytes
unfoldable pub FewBlocks : Type 0
FewBlocks = (file : List ℕ) → length (blocks file) ≤ length file

-- a place of the file lies in a block
abbrev pub LiesIn : List ℕ → ℕ → Tag → Type 0
LiesIn file p t = (t.line ≤ p) × (p < block_end file t)

-- no place lies in two blocks
unfoldable pub BlocksDisjoint : Type 0
BlocksDisjoint =
    (file : List ℕ) (p i j : ℕ)
    → i < length (blocks file)
    → j < length (blocks file)
    → LiesIn file p (sm_tag file i)
    → LiesIn file p (sm_tag file j)
    → i ≡ j

-- "k is not below the number of blocks" is what 11 says, and of 0, 1, 2 and so on their number is the first that is answered so
unfoldable pub ElevenSays : Type 0
ElevenSays =
    (file : List ℕ)
    → length file ≤ most_bytes
    → ((k : ℕ) → (sm_number file k == 11) ≡ nat_le (length (blocks file)) k)
    × (find (λ k. sm_number file k == 11) (range_with_len 0 (suc (length (blocks file)))) ≡ Some (length (blocks file)))

-- ---- Of the examples: P1 to P11, R1 to R40, K1 to K5, S1 to S6 and F1 to F5 are there, with so many things that each says, as many of SM files, and
-- of dropped heads so many fields of each list

unfoldable pub ExamplesCounted : Type 0
ExamplesCounted =
    (map (λ (e : texts.Example). length e.says) texts.table ≡ 5 ∷ 4 ∷ 1 ∷ 5 ∷ 3 ∷ 4 ∷ 2 ∷ 3 ∷ 6 ∷ 1 ∷ 2 ∷ [])
    × (map (λ (e : texts.Example). length e.says) rules.table ≡ 3 ∷ 3 ∷ 3 ∷ 4 ∷ 8 ∷ 1 ∷ 2 ∷ 4 ∷ 5 ∷ 3 ∷ 5 ∷ 5 ∷ 7 ∷ 4 ∷ 5 ∷ 3 ∷ 5 ∷ 2 ∷ 3 ∷ 3 ∷ 3 ∷ 2 ∷ 2 ∷ 2 ∷ 3 ∷ 3 ∷ 1 ∷ 4 ∷ 4 ∷ 3 ∷ 1 ∷ 1 ∷ 14 ∷ 1 ∷ 16 ∷ 1 ∷ 5 ∷ 1 ∷ 1 ∷ 1 ∷ [])
    × (map (λ (e : texts.Example). length e.says) tallies.table ≡ 6 ∷ 2 ∷ 4 ∷ 5 ∷ 3 ∷ 8 ∷ 8 ∷ 6 ∷ 6 ∷ 2 ∷ 4 ∷ 3 ∷ 1 ∷ 1 ∷ 1 ∷ 2 ∷ [])
    × (length requests.table ≡ 18)
    × (map (λ (e : lists.Example). length e.list) lists.table ≡ 0 ∷ 4 ∷ 4 ∷ 4 ∷ 4 ∷ 4 ∷ 8 ∷ [])
