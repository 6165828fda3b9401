-- Specification, Sheets and Program card: what the card has for a text, and its example.
use Rattle.std.specs.Prelude.{◌≡◌, refl, if◌then◌else◌, List, ◌++◌, map, ℕ, nat_lt, length}
use Rattle.std.specs.Fmt.{digits}
use Rattle.definitions.specs.Lists.{joined}
use Rattle.std.specs.Float.Ieee.{of_int, round, add, mul, div}
use Rattle.definitions.specs.Lines.{is_blank_byte, is_row_line, kind_of, line_kind}
use Rattle.definitions.specs.Cells.{cell_of}
use Rattle.definitions.specs.Measures.{chart}
use Rattle.definitions.specs.Reduction.{stride, reduce, minimised}
use Rattle.definitions.specs.Figures.{minimised_text, is_step, densities, spacings}
use Rattle.definitions.specs.Beats.{beat, whole, last_row}
use Rattle.definitions.specs.Objects.{object_at, last_object, last48}
use Rattle.definitions.specs.Tracker.{hold_at, pairs}
use Rattle.definitions.specs.Notes.{effect_at, notes}
use Rattle.definitions.specs.Tally.{direction, row_sum_by, row_sum, tally_with_row, tally}
use Rattle.definitions.specs.Correction.{corrects, paired_only, corrected}
use Rattle.definitions.specs.ReadBack.{rows_read_back, main_tally}
use Rattle.definitions.specs.Entries.{measure_count, figures_of_chart}
use Rattle.definitions.specs.Examples.{bytes}
use Rattle.definitions.specs.declared.Note.{Note}
use Rattle.page.specs.Texts.{number_field}
use Rattle.sheet.specs.Sheet.{line_of_figure, lines_of_head, line_of_measure, lines_of_measures, line_of_note}

-- "a line for each note record, in rising order"
unfoldable pub note_lines : List Note → List ℕ
note_lines ns = joined (map line_of_note ns)

-- "`measures` and `notes` count measures and note records, and `rows` minimised rows. `arrows`, `steps` and `keys` are `total_arrows`, `total_steps`
-- and `keysounds` of the main tally, and `last` is the last beat in 48ths."
unfoldable pub sheet : ℕ → List ℕ → List ℕ
sheet L text =
    lines_of_head (figures_of_chart L text)
    ++ lines_of_measures (densities L text) (spacings L text) (measure_count L text) ++ note_lines (notes L text)

-- "The program `card` reads standard input, takes 4 lanes, and prints the card of what it read. It takes at most 4,095 bytes, and for more prints
-- `refused 1` and byte 10."
unfoldable pub card : List ℕ → List ℕ
card text = if nat_lt 4095 (length text) then bytes "refused 1|" else sheet 4 text

-- "For `1000|0000|0100|0000|;|`, where | is byte 10, it prints this."
pub card-example : card (bytes "1000|0000|0100|0000|;|")
    ≡ bytes "measures 1|rows 2|arrows 2|steps 2|keys 0|notes 2|last 96|m 0 2 1|n 0 0 0 -|n 1 1 0 -|"
unfolding card sheet figures_of_chart note_lines lines_of_head line_of_figure line_of_measure line_of_note number_field digits minimised_text densities spacings is_step beat whole last_row last48 last_object object_at notes effect_at main_tally corrected corrects paired_only pairs hold_at tally tally_with_row row_sum row_sum_by direction rows_read_back minimised reduce stride chart line_kind kind_of is_row_line is_blank_byte cell_of of_int round add mul div
card-example = refl
