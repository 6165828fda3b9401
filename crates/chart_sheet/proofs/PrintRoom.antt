-- The room that a sheet is lent is enough for the form `print`.
use mathlib.Core.Bool.{Bool, true, false, cond}
use mathlib.Core.List.{List, [], ◌∷◌, ◌++◌}
use Prim.Native.Nat.{ℕ, ◌+◌, ◌*◌, ◌/◌, ◌%◌, ◌^◌, ◌<◌, ◌≤◌}
use native.Mathlib.Omega.{arith}
use lib.Dec.{eqb}
use lib.ListN.{length, get_or, length-append, length-replicate}
use Rattle.std.specs.Prelude.{codes}
use Rattle.definitions.specs.Sizes.{most_bytes}
use Rattle.definitions.specs.Figures.{densities, spacings}
use Rattle.definitions.specs.Notes.{notes}
use Rattle.definitions.specs.Records.{number_of_kind, records, note_of_record}
use Rattle.definitions.specs.WriterMakes.{TailMade, Made}
use Rattle.definitions.specs.declared.Kind.{Kind}
use Rattle.definitions.specs.declared.Tail.{Tail}
use Rattle.definitions.specs.declared.Tail.TheVariants.{Without, Row}
use Rattle.definitions.specs.declared.Note.{Note}
use Rattle.page.specs.Texts.{aligned, aligned_left}
use Rattle.sheet.specs.Sheet.{field_count, field_at}
use Rattle.sheet.proofs.Names.{field-name}
use Rattle.sheet.specs.declared.SheetFigures.{SheetFigures}
use Rattle.sheet_answers.specs.Answers.{sheet_figures}
use Rattle.chart_sheet.specs.Forms.{printed}
use Rattle.definitions.specs.declared.ChartFigures.{ChartFigures}
use Rattle.sheet_print.specs.Print.{line_of_count, three, line_of_last_beat, print_heads, line_of_tally, lines_of_tally, head_of_tally, print_tallies, start_of_line, entry_of_density, lines_of_densities, head_of_densities, word_of_held, line_of_held, held_line_of_record, lines_of_held, head_of_held, print_of}
use Rattle.chart_sheet.proofs.Lengths.{number-length, aligned-length, aligned-short, listed-most}
use Rattle.chart_sheet.proofs.Fits.{HeadsFit, FiguresFit, field-fits, printed-fit}
use Rattle.chart_sheet.proofs.Counts.{densities-count, records-count, measure-below, density-below, tail-below, reads, room-enough}

-- ---- Heads and tallies, with numbers of at most twenty digits
count-line : (name : List ℕ) (n c : ℕ) → n < 2 ^ 64 → length name ≤ c → length (line_of_count name n) ≤ c + 30
unfolding line_of_count
count-line name n c small h = simp length-append (omega (arith, aligned-length 9 n small))

last_line : (last : ℕ) → last < 2 ^ 64 → length (line_of_last_beat last) ≤ 68
unfolding line_of_last_beat
last_line last small = simp length-append (omega (arith, aligned-length 9 (last / 48) (omega arith), number-length (last % 48) (omega arith)))

print-heads : (f : ChartFigures) → HeadsFit f → length (print_heads f) ≤ 236
unfolding print_heads
print-heads f fit =
    simp length-append
    (omega (
      arith,
      count-line (codes "measures    ") f.measures 12 fit.measures (omega arith),
      count-line (codes "rows        ") f.rows 12 fit.rows (omega arith),
      count-line (codes "notes       ") f.notes 12 fit.notes (omega arith),
      last_line f.last_row fit.last_row,
      count-line (codes "in 48ths    ") f.last_row 12 fit.last_row (omega arith),
    ))

three-length : (a b c : ℕ) → a < 2 ^ 64 → b < 2 ^ 64 → c < 2 ^ 64 → length (three a b c) ≤ 88
unfolding three
three-length a b c p q r = simp length-append (omega (arith, aligned-length 9 a p, aligned-length 9 b q, aligned-length 9 c r))

-- a name of at most twelve bytes in twelve columns
name-columns : (name : List ℕ) → length name ≤ 12 → length (aligned_left 12 name) ≤ 12
unfolding aligned_left
name-columns name h = rw (length-append, length-replicate) (omega arith)

tally-line : (name : List ℕ) (main kept judged : ℕ) → main < 2 ^ 64 → kept < 2 ^ 64 → judged < 2 ^ 64 → length name ≤ 12
    → length (line_of_tally name main kept judged) ≤ 100
unfolding line_of_tally
tally-line name main kept judged p q r h = rw length-append (omega (arith, name-columns name h, three-length main kept judged p q r))

tally-lines : (f : SheetFigures) → FiguresFit f → length (lines_of_tally f) ≤ 100 * field_count
unfolding lines_of_tally
tally-lines f fit =
    let t = f.chart.stats in
    listed-most (λ (i : ℕ). line_of_tally (field_at t i).0 (field_at t i).1 (field_at f.kept.stats i).1 (field_at f.judged i).1) field_count 100
    (λ i h. tally-line (field_at t i).0 (field_at t i).1 (field_at f.kept.stats i).1 (field_at f.judged i).1
    (field-fits t fit.main i) (field-fits f.kept.stats fit.kept i) (field-fits f.judged fit.judged i) (field-name t i))

print-tallies : (f : SheetFigures) → FiguresFit f → length (print_tallies f) ≤ 41 + 100 * field_count
unfolding print_tallies head_of_tally
print-tallies f fit = simp length-append (omega (arith, tally-lines f fit))

-- ---- Measures
line-start : (k : ℕ) → k < 100000000 → length (start_of_line k) ≤ 10
line-start k h = go (eqb (k % 16) 0)
  where
    go : (t : Bool) → length (cond t (10 ∷ (aligned 7 k ++ (58 ∷ []))) []) ≤ 10
    go true = simp length-append (omega (arith, aligned-short 7 k 8 h (omega arith) (omega arith)))
    go false = omega arith

-- a measure takes at most 19 bytes
density-entry : (k density spaced : ℕ) → k < 100000000 → density < 100000000 → length (entry_of_density k density spaced) ≤ 19
unfolding entry_of_density
density-entry k density spaced h g =
    rw (length-append, length-append) (omega (arith, line-start k h, aligned-short 3 density 8 g (omega arith) (omega arith)))

-- ---- Notes
held_word : (k : Kind) → length (word_of_held k) ≤ 4
held_word k = go (eqb (number_of_kind k) 2)
  where
    go : (t : Bool) → length (cond t (codes "roll") (codes "hold")) ≤ 4
    go true = omega arith
    go false = omega arith

three-short : (a b c : ℕ) → a < 100000000 → b < 100000000 → c < 100000000 → length (three a b c) ≤ 28
unfolding three
three-short a b c p q r =
    simp length-append
    (omega (
      arith,
      aligned-short 9 a 9 p (omega arith) (omega arith),
      aligned-short 9 b 9 q (omega arith) (omega arith),
      aligned-short 9 c 9 r (omega arith) (omega arith),
    ))

-- a hold or roll takes at most 32 bytes
held-line : (n : Note) (t : Tail) → Made n → TailMade n.row n.kind t → length (line_of_held n t) ≤ 32
held-line n Without made m = omega arith
held-line n (Row j) made m =
    rw length-append
    (omega (
      arith,
      held_word n.kind,
      three-short n.row n.column j (omega (arith, made.row)) (omega (arith, made.column)) (tail-below n.row n.kind j m),
    ))

print-parts : (f : SheetFigures) (densities spacings records : List ℕ) → FiguresFit f
    → length (print_of f densities spacings records)
    ≤ 385 + 100 * field_count + length (lines_of_densities densities spacings (length densities)) + length (lines_of_held records (length records / 10))
unfolding print_of head_of_densities head_of_held
print-parts f densities spacings records fit =
    simp length-append (omega (arith, print-heads f.chart fit.heads, print-tallies f fit))

module _ (L : ℕ) (four : 4 ≤ L) (ten : L ≤ 10) (text : List ℕ) (short : length text ≤ most_bytes) where
  held-record : (k : ℕ) → k < length (notes L text) → length (held_line_of_record (note_of_record (records (notes L text)) k)) ≤ 32
  held-record k h =
      let back = reads L (omega arith) ten text short k h in
      rw back.read (held-line back.note back.note.tail back.limits back.limits.tail)

  pub print-room : length (printed L text) ≤ 42 * (length text + 1) + 3000
  unfolding printed field_count
  print-room =
      let ds = densities L text in
      let ss = spacings L text in
      let rs = records (notes L text) in
      let measures : length (lines_of_densities ds ss (length ds)) ≤ 19 * length ds =
      listed-most (λ (k : ℕ). entry_of_density k (get_or ds k 0) (get_or ss k 0)) (length ds) 19
      (λ k h. density-entry k (get_or ds k 0) (get_or ss k 0) (measure-below L (omega arith) ten text short k (omega (arith, densities-count L text))) (density-below L (omega arith) ten text short k))
      in
      let lines : length (lines_of_held rs (length rs / 10)) ≤ 32 * (length rs / 10) =
      listed-most (λ (k : ℕ). held_line_of_record (note_of_record rs k)) (length rs / 10) 32 (λ k h. held-record k (omega (arith, records-count (notes L text))))
      in
      omega (
        arith,
        print-parts (sheet_figures L text) ds ss rs (printed-fit L four ten text short),
        room-enough L (omega arith) ten text (385 + 100 * field_count) (length (lines_of_densities ds ss (length ds))) (length (lines_of_held rs (length rs / 10)))
            (omega arith) (omega (arith, densities-count L text)) (omega (arith, records-count (notes L text))),
      )
