-- Specification, Sheets: the lines of the card.
use Rattle.std.specs.Prelude.{List, [], ◌++◌, ℕ, slice_index_or, slice_index, codes, Result, Ok, Err}
use Rattle.definitions.specs.Records.{number_of_kind, note_of_record}
use Rattle.definitions.specs.Tally.{tally_fields}
use Rattle.definitions.specs.declared.Tail.{Tail}
use Rattle.definitions.specs.declared.Tail.TheVariants.{Without, Row}
use Rattle.definitions.specs.declared.Note.{Note}
use Rattle.definitions.specs.declared.Refusal.{Refusal}
use Rattle.definitions.specs.declared.ArrowStats.{ArrowStats}
use Rattle.definitions.specs.declared.ChartFigures.{ChartFigures}
use Rattle.page.specs.Texts.{number_field, listed}

-- a tally's fields in their order, each with its name
unfoldable pub named_fields : ArrowStats → List (List ℕ × ℕ)
named_fields t = tally_fields t

-- how many they are
unfoldable pub field_count : ℕ
field_count = 17

-- one of them
abbrev pub field_at : ArrowStats → ℕ → List ℕ × ℕ
field_at t i = slice_index_or (named_fields t) i ([], 0)

-- "the name, a blank, the number and byte 10": a name with its blank, and a number
unfoldable pub line_of_figure : List ℕ → ℕ → List ℕ
line_of_figure name n = name ++ number_field n 10

-- "`m`, measure, density, and spacing as 1 or 0". "What stands on a line is parted by one blank, and byte 10 ends it."
unfoldable pub line_of_measure : ℕ → ℕ → ℕ → List ℕ
line_of_measure m density spaced = codes "m " ++ number_field m 32 ++ number_field density 32 ++ number_field spaced 10

-- "tail row or `-`"
abbrev pub field_of_tail : Tail → List ℕ
field_of_tail Without = codes "-\n"
field_of_tail (Row j) = number_field j 10

-- "`n`, row, column, kind, and tail row or `-`"
unfoldable pub line_of_note : Note → List ℕ
line_of_note n = codes "n " ++ number_field n.row 32 ++ number_field n.column 32 ++ number_field (number_of_kind n.kind) 32 ++ field_of_tail n.tail

-- the line of a record; one that cannot be read has none
abbrev pub line_of_record : Result Note Refusal → List ℕ
line_of_record (Ok n) = line_of_note n
line_of_record (Err k) = []

-- "Then comes a line for each measure, in rising order": those of the first measures, by their densities and spacings
abbrev pub lines_of_measures : List ℕ → List ℕ → ℕ → List ℕ
lines_of_measures densities spacings n = listed (λ (k : ℕ). line_of_measure k (slice_index densities k) (slice_index spacings k)) n

-- "Then comes a line for each note record, in rising order": those of the first note records
abbrev pub lines_of_records : List ℕ → ℕ → List ℕ
lines_of_records records n = listed (λ (k : ℕ). line_of_record (note_of_record records k)) n

-- "The card has a line for each of `measures`, `rows`, `arrows`, `steps`, `keys`, `notes` and `last`: the name, a blank, the number and byte 10."
unfoldable pub lines_of_head : ChartFigures → List ℕ
lines_of_head f =
    line_of_figure (codes "measures ") f.measures
    ++ line_of_figure (codes "rows ") f.rows
    ++ line_of_figure (codes "arrows ") f.stats.total_arrows
    ++ line_of_figure (codes "steps ") f.stats.total_steps
    ++ line_of_figure (codes "keys ") f.stats.keysounds
    ++ line_of_figure (codes "notes ") f.notes
    ++ line_of_figure (codes "last ") f.last_row

-- the whole sheet of these figures, with the densities and spacings of as many measures and as many note records
unfoldable pub sheet_of : ChartFigures → List ℕ → List ℕ → List ℕ → List ℕ
sheet_of f densities spacings records =
    lines_of_head f ++ lines_of_measures densities spacings f.measures ++ lines_of_records records f.notes
