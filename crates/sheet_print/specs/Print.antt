-- Specification, Sheets: the form `print`, for a printout, in lines of at most 80 columns as long as its numbers have no more digits than their
-- columns. "The form print is the text below, with a number in place of each letter; a number stands at the right of its columns, and is written
-- whole if it is wider." "Byte 10 ends each line."
use Rattle.std.specs.Prelude.{if◌then◌else◌, ◌==◌, List, [], ◌∷◌, ◌++◌, ℕ, ◌/◌, ◌%◌, length, slice_index, codes, decimal, Result, Ok, Err}
use Rattle.definitions.specs.Records.{number_of_kind, note_of_record}
use Rattle.definitions.specs.declared.Kind.{Kind}
use Rattle.definitions.specs.declared.Tail.{Tail}
use Rattle.definitions.specs.declared.Tail.TheVariants.{Without, Row}
use Rattle.definitions.specs.declared.Note.{Note}
use Rattle.definitions.specs.declared.Refusal.{Refusal}
use Rattle.definitions.specs.declared.ChartFigures.{ChartFigures}
use Rattle.page.specs.Texts.{aligned, aligned_left, listed}
use Rattle.sheet.specs.Sheet.{field_count, field_at}
use Rattle.sheet.specs.declared.SheetFigures.{SheetFigures}

-- a name and a number in nine columns: "A to D, F to I and N to P have nine columns, K seven, L and M three; E has as many as it needs."
unfoldable pub line_of_count : List ℕ → ℕ → List ℕ
line_of_count name n = name ++ aligned 9 n ++ codes "\n"

-- three numbers in nine columns each
unfoldable pub three : ℕ → ℕ → ℕ → List ℕ
three a b c = aligned 9 a ++ aligned 9 b ++ aligned 9 c ++ codes "\n"

-- the last beat in whole beats and what is left in 48ths: "D is F div 48 and E is F mod 48"
unfoldable pub line_of_last_beat : ℕ → List ℕ
line_of_last_beat last = codes "last beat   " ++ aligned 9 (last / 48) ++ codes " + " ++ decimal (last % 48) ++ codes "/48\n"

-- "A, B, C and F are measures, minimised rows, note records and the last beat in 48ths"
unfoldable pub print_heads : ChartFigures → List ℕ
print_heads f =
    line_of_count (codes "measures    ") f.measures
    ++ line_of_count (codes "rows        ") f.rows
    ++ line_of_count (codes "notes       ") f.notes
    ++ line_of_last_beat f.last_row
    ++ line_of_count (codes "in 48ths    ") f.last_row

-- a field of the three tallies, "its name at the left of twelve columns", and its counts
unfoldable pub line_of_tally : List ℕ → ℕ → ℕ → ℕ → List ℕ
line_of_tally name main kept judged = aligned_left 12 name ++ three main kept judged

-- the first n fields
abbrev pub first_fields : SheetFigures → ℕ → List ℕ
first_fields f n =
    listed (λ (i : ℕ). line_of_tally (field_at f.chart.stats i).0 (field_at f.chart.stats i).1 (field_at f.kept.stats i).1 (field_at f.judged i).1) n

-- an empty line and the names of the three tallies, each in nine columns after the twelve of a field's name
unfoldable pub head_of_tally : List ℕ
head_of_tally = codes "\n                 main     kept   judged\n"

-- all fields: "The line of `total_arrows` is one of seventeen, one for each field of the tallies in their order"
unfoldable pub lines_of_tally : SheetFigures → List ℕ
lines_of_tally f = first_fields f field_count

unfoldable pub print_tallies : SheetFigures → List ℕ
print_tallies f = head_of_tally ++ lines_of_tally f

-- where measure k begins a line, the end of the line before and its number: "A measure whose number is a multiple of 16 begins a line, with its
-- number K"
abbrev pub start_of_line : ℕ → List ℕ
start_of_line k = if k % 16 == 0 then codes "\n" ++ aligned 7 k ++ codes ":" else []

-- `=` where a measure is equally spaced, else `-`
abbrev pub mark : ℕ → ℕ
mark spaced = if spaced == 0 then 45 else 61

-- measure k: "each measure has its density, and `=` where its spacing is true, else `-`"
unfoldable pub entry_of_density : ℕ → ℕ → ℕ → List ℕ
entry_of_density k density spaced = start_of_line k ++ aligned 3 density ++ (mark spaced ∷ [])

-- densities, sixteen to a line
abbrev pub lines_of_densities : List ℕ → List ℕ → ℕ → List ℕ
lines_of_densities densities spacings n = listed (λ (k : ℕ). entry_of_density k (slice_index densities k) (slice_index spacings k)) n

unfoldable pub head_of_densities : List ℕ
head_of_densities = codes "\ndensities, 16 measures to a line; = equally spaced, - not"

-- "`roll` for kind 2 and `hold` for another"
abbrev pub word_of_held : Kind → List ℕ
word_of_held kind = if number_of_kind kind == 2 then codes "roll" else codes "hold"

-- "a line for each note that has a tail, with its row, column and tail row"; another note has no line
abbrev pub line_of_held : Note → Tail → List ℕ
line_of_held n Without = []
line_of_held n (Row j) = word_of_held n.kind ++ three n.row n.column j

-- of a record; one that cannot be read has none
abbrev pub held_line_of_record : Result Note Refusal → List ℕ
held_line_of_record (Ok n) = line_of_held n n.tail
held_line_of_record (Err k) = []

abbrev pub lines_of_held : List ℕ → ℕ → List ℕ
lines_of_held records n = listed (λ (k : ℕ). held_line_of_record (note_of_record records k)) n

-- the end of the last line of densities, an empty line, and the names of the columns
unfoldable pub head_of_held : List ℕ
head_of_held = codes "\n\nholds and rolls\n          row   column     tail\n"

-- the whole form, from the figures, the densities and spacings of all measures and all note records
unfoldable pub print_of : SheetFigures → List ℕ → List ℕ → List ℕ → List ℕ
print_of f densities spacings records =
    print_heads f.chart
    ++ print_tallies f
    ++ head_of_densities
    ++ lines_of_densities densities spacings (length densities)
    ++ head_of_held
    ++ lines_of_held records (length records / 10)
