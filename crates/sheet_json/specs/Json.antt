-- Specification, Sheets: the form `json`. "The form JSON is one object on one line, without a blank or byte 10, whose members stand in this order."
use Rattle.std.specs.Prelude.{if◌then◌else◌, ◌==◌, List, [], ◌++◌, ℕ, ◌/◌, ◌%◌, length, slice_index, codes, decimal, Result, Ok, Err}
use Rattle.definitions.specs.Records.{number_of_kind, note_of_record}
use Rattle.definitions.specs.declared.Tail.{Tail}
use Rattle.definitions.specs.declared.Tail.TheVariants.{Without, Row}
use Rattle.definitions.specs.declared.Note.{Note}
use Rattle.definitions.specs.declared.Refusal.{Refusal}
use Rattle.definitions.specs.declared.ArrowStats.{ArrowStats}
use Rattle.definitions.specs.declared.ChartFigures.{ChartFigures}
use Rattle.page.specs.Texts.{number_field, listed}
use Rattle.sheet.specs.Sheet.{field_count, field_at}
use Rattle.sheet.specs.declared.SheetFigures.{SheetFigures}

-- between two entries
abbrev pub separator : ℕ → List ℕ
separator k = if k == 0 then [] else codes ","

-- a name and a number
unfoldable pub named : List ℕ → ℕ → List ℕ
named name n = codes "\"" ++ name ++ codes "\":" ++ decimal n

-- after another
unfoldable pub figure : List ℕ → ℕ → List ℕ
figure name n = codes "," ++ named name n

-- the last beat in whole beats, what is left in 48ths, and all in 48ths
unfoldable pub last_beat_of : ℕ → List ℕ
last_beat_of last =
    codes ",\"last_beat\":{"
    ++ named (codes "beats") (last / 48) ++ figure (codes "over_48") (last % 48) ++ figure (codes "in_48ths") last

-- measures, rows, notes and the last beat
unfoldable pub json_heads : ChartFigures → List ℕ
json_heads f =
    codes "{" ++ named (codes "measures") f.measures ++ figure (codes "rows") f.rows ++ figure (codes "notes") f.notes ++ last_beat_of f.last_row

-- field i of a tally
unfoldable pub member : ℕ → List ℕ → ℕ → List ℕ
member i name count = separator i ++ named name count

-- the first n fields
abbrev pub first_members : ArrowStats → ℕ → List ℕ
first_members t n = listed (λ (i : ℕ). member i (field_at t i).0 (field_at t i).1) n

-- "The three tallies have all their fields, by their names and in their order."
unfoldable pub members : ArrowStats → List ℕ
members t = first_members t field_count

-- those of the three tallies, each after what stands before it
unfoldable pub json_tallies : SheetFigures → List ℕ
json_tallies f =
    codes "},\"main\":{"
    ++ members f.chart.stats
    ++ codes "},\"kept\":{"
    ++ members f.kept.stats
    ++ codes "},\"judged\":{"
    ++ members f.judged

-- the density of measure k
unfoldable pub entry_of_density : ℕ → ℕ → List ℕ
entry_of_density k density = separator k ++ decimal density

abbrev pub entries_of_densities : List ℕ → ℕ → List ℕ
entries_of_densities densities n = listed (λ (k : ℕ). entry_of_density k (slice_index densities k)) n

-- 0 is false
abbrev pub truth : ℕ → List ℕ
truth spaced = if spaced == 0 then codes "false" else codes "true"

-- the spacing of measure k
unfoldable pub entry_of_spacing : ℕ → ℕ → List ℕ
entry_of_spacing k spaced = separator k ++ truth spaced

abbrev pub entries_of_spacings : List ℕ → ℕ → List ℕ
entries_of_spacings spacings n = listed (λ (k : ℕ). entry_of_spacing k (slice_index spacings k)) n

-- a tail's row, or null
abbrev pub value_of_tail : Tail → List ℕ
value_of_tail Without = codes "null"
value_of_tail (Row j) = decimal j

-- "A note record is its row, column, kind Q and tail row, or `null` where it has no tail."
unfoldable pub value_of_note : Note → List ℕ
value_of_note n = codes "[" ++ number_field n.row 44 ++ number_field n.column 44 ++ number_field (number_of_kind n.kind) 44 ++ value_of_tail n.tail ++ codes "]"

-- of a record; one that cannot be read is null
abbrev pub value_of_record : Result Note Refusal → List ℕ
value_of_record (Ok n) = value_of_note n
value_of_record (Err k) = codes "null"

-- record k
unfoldable pub entry_of_record : ℕ → Result Note Refusal → List ℕ
entry_of_record k r = separator k ++ value_of_record r

abbrev pub entries_of_records : List ℕ → ℕ → List ℕ
entries_of_records records n = listed (λ (k : ℕ). entry_of_record k (note_of_record records k)) n

-- the three lists, and the end of the object
unfoldable pub json_lists : List ℕ → List ℕ → List ℕ → List ℕ
json_lists densities spacings records =
    codes "},\"densities\":["
    ++ entries_of_densities densities (length densities)
    ++ codes "],\"equally_spaced\":["
    ++ entries_of_spacings spacings (length spacings)
    ++ codes "],\"note_records\":["
    ++ entries_of_records records (length records / 10)
    ++ codes "]}"

-- the whole form, from the figures, the densities and spacings of all measures and all note records
unfoldable pub json_of : SheetFigures → List ℕ → List ℕ → List ℕ → List ℕ
json_of f densities spacings records = json_heads f.chart ++ json_tallies f ++ json_lists densities spacings records
