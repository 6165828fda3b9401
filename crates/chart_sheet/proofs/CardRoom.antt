-- The room that a sheet is lent is enough for the lines of the card.
use mathlib.Core.List.{List}
use mathlib.Core.Path.{◌≡◌}
use Prim.Native.Nat.{ℕ, ◌+◌, ◌*◌, ◌^◌, ◌<◌, ◌≤◌}
use native.Mathlib.Omega.{arith}
use lib.ListN.{length, get_or, length-append}
use Rattle.std.specs.Prelude.{codes}
use Rattle.definitions.specs.Sizes.{most_bytes}
use Rattle.definitions.specs.Figures.{densities, spacings}
use Rattle.definitions.specs.Notes.{notes}
use Rattle.definitions.specs.Records.{number_of_kind, records, note_of_record}
use Rattle.definitions.specs.Entries.{measure_count, figures_of_chart}
use Rattle.definitions.specs.WriterMakes.{TailMade, Made}
use Rattle.definitions.specs.declared.Kind.{Kind}
use Rattle.definitions.specs.declared.Tail.{Tail}
use Rattle.definitions.specs.declared.Tail.TheVariants.{Without, Row}
use Rattle.definitions.specs.declared.Note.{Note}
use Rattle.sheet.specs.Sheet.{line_of_figure, line_of_measure, field_of_tail, line_of_note, line_of_record, lines_of_measures, lines_of_records, lines_of_head, sheet_of}
use Rattle.definitions.specs.declared.ChartFigures.{ChartFigures}
use Rattle.sheet_answers.specs.Answers.{sheet_figures}
use Rattle.chart_sheet.proofs.Lengths.{field-digit, field-short, field-length, listed-most}
use Rattle.sheet.specs.Card.{sheet}
use Rattle.chart_sheet.proofs.Fits.{HeadsFit, printed-fit}
use Rattle.chart_sheet.proofs.Lines.{card-lines}
use Rattle.chart_sheet.proofs.Counts.{measure-below, density-below, spacing-below, tail-below, reads, room-enough}

-- a head line has a number of at most twenty digits
head-line : (name : List ℕ) (n c : ℕ) → n < 2 ^ 64 → length name ≤ c → length (line_of_figure name n) ≤ c + 21
unfolding line_of_figure
head-line name n c small h = rw length-append (omega (arith, field-length n 10 small))

head-lines : (f : ChartFigures) → HeadsFit f → length (lines_of_head f) ≤ 190
unfolding lines_of_head
head-lines f fit =
    simp length-append
    (omega (
      arith,
      head-line (codes "measures ") f.measures 9 fit.measures (omega arith),
      head-line (codes "rows ") f.rows 5 fit.rows (omega arith),
      head-line (codes "arrows ") f.stats.total_arrows 7 fit.arrows (omega arith),
      head-line (codes "steps ") f.stats.total_steps 6 fit.steps (omega arith),
      head-line (codes "keys ") f.stats.keysounds 5 fit.keys (omega arith),
      head-line (codes "notes ") f.notes 6 fit.notes (omega arith),
      head-line (codes "last ") f.last_row 5 fit.last_row (omega arith),
    ))

-- a measure's line has at most 22 bytes
measure-line : (m density spaced : ℕ) → m < 100000000 → density < 100000000 → spaced < 10 → length (line_of_measure m density spaced) ≤ 22
unfolding line_of_measure
measure-line m density spaced a b c =
    simp length-append (omega (arith, field-short m 32 a, field-short density 32 b, field-digit spaced 10 c))

-- a tail and its line's end
tail-field : (r : ℕ) (k : Kind) (t : Tail) → TailMade r k t → length (field_of_tail t) ≤ 9
tail-field r k Without m = omega arith
tail-field r k (Row j) m = field-short j 10 (tail-below r k j m)

-- a note's line has at most 24 bytes
note-line : (n : Note) → Made n → length (line_of_note n) ≤ 24
unfolding line_of_note
note-line n made =
    simp length-append
    (omega (
      arith,
      field-short n.row 32 (omega (arith, made.row)),
      field-digit n.column 32 made.column,
      field-digit (number_of_kind n.kind) 32 (omega (arith, made.kind)),
      tail-field n.row n.kind n.tail made.tail,
    ))

-- how the room of a sheet is shared out
sheet-parts : (f : ChartFigures) (densities spacings records : List ℕ)
    → length (sheet_of f densities spacings records) ≡ length (lines_of_head f) + (length (lines_of_measures densities spacings f.measures) + length (lines_of_records records f.notes))
unfolding sheet_of
sheet-parts f densities spacings records = simp length-append (omega arith)

module _ (L : ℕ) (four : 4 ≤ L) (ten : L ≤ 10) (text : List ℕ) (short : length text ≤ most_bytes) where
  record-line : (k : ℕ) → k < length (notes L text) → length (line_of_record (note_of_record (records (notes L text)) k)) ≤ 24
  record-line k h =
      let back = reads L (omega arith) ten text short k h in
      rw back.read (note-line back.note back.limits)

  pub card-room : length (sheet L text) ≤ 42 * (length text + 1) + 3000
  unfolding figures_of_chart sheet_figures
  card-room =
      let f = figures_of_chart L text in
      let ds = densities L text in
      let ss = spacings L text in
      let rs = records (notes L text) in
      let n = length (notes L text) in
      let measures : length (lines_of_measures ds ss (measure_count L text)) ≤ 22 * measure_count L text =
      listed-most (λ (k : ℕ). line_of_measure k (get_or ds k 0) (get_or ss k 0)) (measure_count L text) 22
      (λ k h. measure-line k (get_or ds k 0) (get_or ss k 0) (measure-below L (omega arith) ten text short k h) (density-below L (omega arith) ten text short k) (spacing-below L text k))
      in
      let lines : length (lines_of_records rs n) ≤ 24 * n = listed-most (λ (k : ℕ). line_of_record (note_of_record rs k)) n 24 record-line in
      rw (← card-lines L (omega arith) ten text short)
      (omega (
        arith,
        sheet-parts f ds ss rs,
        room-enough L (omega arith) ten text (length (lines_of_head f)) (length (lines_of_measures ds ss (measure_count L text))) (length (lines_of_records rs n))
            (omega (arith, head-lines f (printed-fit L four ten text short).heads)) measures (omega (arith, lines)),
      ))
