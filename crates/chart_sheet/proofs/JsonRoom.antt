-- The room that a sheet is lent is enough for the form `json`.
use Rattle.std.specs.Prelude.{Ok}
use mathlib.Core.Bool.{Bool, true, false, cond}
use mathlib.Core.List.{List, [], ◌∷◌}
use Prim.Native.Nat.{ℕ, ◌+◌, ◌*◌, ◌/◌, ◌%◌, ◌^◌, ◌<◌, ◌≤◌}
use native.Mathlib.Omega.{arith}
use lib.Dec.{eqb}
use lib.ListN.{length, get_or, length-append}
use Rattle.std.specs.Prelude.{codes}
use Rattle.definitions.specs.Sizes.{most_bytes}
use Rattle.definitions.specs.Figures.{densities, spacings}
use Rattle.definitions.specs.Notes.{notes}
use Rattle.definitions.specs.Records.{number_of_kind, records, note_of_record}
use Rattle.definitions.specs.WriterMakes.{TailMade, Made}
use Rattle.definitions.specs.declared.Kind.{Kind}
use Rattle.definitions.specs.declared.Tail.{Tail}
use Rattle.definitions.specs.declared.Tail.TheVariants.{Without, Row}
use Rattle.definitions.specs.declared.Note.{Note}
use Rattle.definitions.specs.declared.ArrowStats.{ArrowStats}
use Rattle.definitions.specs.declared.ChartFigures.{ChartFigures}
use Rattle.sheet.specs.Sheet.{field_count, field_at}
use Rattle.sheet.specs.declared.SheetFigures.{SheetFigures}
use Rattle.sheet_answers.specs.Answers.{sheet_figures}
use Rattle.chart_sheet.specs.Forms.{json_object}
use Rattle.sheet.proofs.Names.{field-name}
use Rattle.sheet_json.specs.Json.{separator, named, figure, last_beat_of, json_heads, member, members, json_tallies, entry_of_density, entries_of_densities, truth, entry_of_spacing, entries_of_spacings, value_of_tail, value_of_note, entry_of_record, entries_of_records, json_lists, json_of}
use Rattle.chart_sheet.proofs.Lengths.{number-length, number_short, field-digit, field-short, listed-most}
use Rattle.chart_sheet.proofs.Fits.{TallyFits, HeadsFit, FiguresFit, field-fits, printed-fit}
use Rattle.chart_sheet.proofs.Counts.{densities-count, spacings-count, records-count, density-below, tail-below, reads, room-enough}

-- ---- Heads and tallies, with numbers of at most twenty digits
named-length : (name : List ℕ) (n c : ℕ) → n < 2 ^ 64 → length name ≤ c → length (named name n) ≤ c + 23
unfolding named
named-length name n c small h = simp length-append (omega (arith, number-length n small))

figure-length : (name : List ℕ) (n c : ℕ) → n < 2 ^ 64 → length name ≤ c → length (figure name n) ≤ c + 24
unfolding figure
figure-length name n c small h = rw length-append (omega (arith, named-length name n c small h))

last-length : (last : ℕ) → last < 2 ^ 64 → length (last_beat_of last) ≤ 106
unfolding last_beat_of
last-length last small =
    simp length-append
    (omega (
      arith,
      named-length (codes "beats") (last / 48) 5 (omega arith) (omega arith),
      figure-length (codes "over_48") (last % 48) 7 (omega arith) (omega arith),
      figure-length (codes "in_48ths") last 8 small (omega arith),
    ))

json-heads : (f : ChartFigures) → HeadsFit f → length (json_heads f) ≤ 200
unfolding json_heads
json-heads f fit =
    simp length-append
    (omega (
      arith,
      named-length (codes "measures") f.measures 8 fit.measures (omega arith),
      figure-length (codes "rows") f.rows 4 fit.rows (omega arith),
      figure-length (codes "notes") f.notes 5 fit.notes (omega arith),
      last-length f.last_row fit.last_row,
    ))

separator-length : (k : ℕ) → length (separator k) ≤ 1
separator-length k = go (eqb k 0)
  where
    go : (t : Bool) → length {A = ℕ} (cond t [] (44 ∷ [])) ≤ 1
    go true = omega arith
    go false = omega arith

member-length : (i : ℕ) (name : List ℕ) (count : ℕ) → count < 2 ^ 64 → length name ≤ 12 → length (member i name count) ≤ 36
unfolding member
member-length i name count small h = rw length-append (omega (arith, separator-length i, named-length name count 12 small h))

members-length : (t : ArrowStats) → TallyFits t → length (members t) ≤ 36 * field_count
unfolding members
members-length t fit =
    listed-most (λ (i : ℕ). member i (field_at t i).0 (field_at t i).1) field_count 36 (λ i h. member-length i (field_at t i).0 (field_at t i).1 (field-fits t fit i) (field-name t i))

json-tallies : (f : SheetFigures) → FiguresFit f → length (json_tallies f) ≤ 32 + 108 * field_count
unfolding json_tallies
json-tallies f fit =
    simp length-append (omega (arith, members-length f.chart.stats fit.main, members-length f.kept.stats fit.kept, members-length f.judged fit.judged))

-- ---- Measures: at most nine bytes for a density and six for a spacing
density-entry : (k density : ℕ) → density < 100000000 → length (entry_of_density k density) ≤ 9
unfolding entry_of_density
density-entry k density h = rw length-append (omega (arith, separator-length k, number_short density h))

truth-length : (spaced : ℕ) → length (truth spaced) ≤ 5
truth-length spaced = go (eqb spaced 0)
  where
    go : (t : Bool) → length (cond t (codes "false") (codes "true")) ≤ 5
    go true = omega arith
    go false = omega arith

spacing-entry : (k spaced : ℕ) → length (entry_of_spacing k spaced) ≤ 6
unfolding entry_of_spacing
spacing-entry k spaced = rw length-append (omega (arith, separator-length k, truth-length spaced))

-- ---- Notes
tail-value : (r : ℕ) (k : Kind) (t : Tail) → TailMade r k t → length (value_of_tail t) ≤ 8
tail-value r k Without m = omega arith
tail-value r k (Row j) m = number_short j (tail-below r k j m)

note-value : (n : Note) → Made n → length (value_of_note n) ≤ 23
unfolding value_of_note
note-value n made =
    simp length-append
    (omega (
      arith,
      field-short n.row 44 (omega (arith, made.row)),
      field-digit n.column 44 made.column,
      field-digit (number_of_kind n.kind) 44 (omega (arith, made.kind)),
      tail-value n.row n.kind n.tail made.tail,
    ))

-- a note takes at most 24 bytes
found-entry : (k : ℕ) (n : Note) → Made n → length (entry_of_record k (Ok n)) ≤ 24
unfolding entry_of_record
found-entry k n made = rw length-append (omega (arith, separator-length k, note-value n made))

json-parts : (f : SheetFigures) (densities spacings records : List ℕ) → FiguresFit f
    → length (json_of f densities spacings records)
    ≤ 288 + 108 * field_count
    + (length (entries_of_densities densities (length densities)) + length (entries_of_spacings spacings (length spacings)))
    + length (entries_of_records records (length records / 10))
unfolding json_of json_lists
json-parts f densities spacings records fit =
    simp length-append (omega (arith, json-heads f.chart fit.heads, json-tallies f fit))

module _ (L : ℕ) (four : 4 ≤ L) (ten : L ≤ 10) (text : List ℕ) (short : length text ≤ most_bytes) where
  record-entry : (k : ℕ) → k < length (notes L text) → length (entry_of_record k (note_of_record (records (notes L text)) k)) ≤ 24
  record-entry k h =
      let back = reads L (omega arith) ten text short k h in
      rw back.read (found-entry k back.note back.limits)

  pub json-room : length (json_object L text) ≤ 42 * (length text + 1) + 3000
  unfolding json_object field_count
  json-room =
      let ds = densities L text in
      let ss = spacings L text in
      let rs = records (notes L text) in
      let dense : length (entries_of_densities ds (length ds)) ≤ 9 * length ds =
      listed-most (λ (k : ℕ). entry_of_density k (get_or ds k 0)) (length ds) 9 (λ k h. density-entry k (get_or ds k 0) (density-below L (omega arith) ten text short k))
      in
      let spaced : length (entries_of_spacings ss (length ss)) ≤ 6 * length ss =
      listed-most (λ (k : ℕ). entry_of_spacing k (get_or ss k 0)) (length ss) 6 (λ k h. spacing-entry k (get_or ss k 0))
      in
      let values : length (entries_of_records rs (length rs / 10)) ≤ 24 * (length rs / 10) =
      listed-most (λ (k : ℕ). entry_of_record k (note_of_record rs k)) (length rs / 10) 24 (λ k h. record-entry k (omega (arith, records-count (notes L text))))
      in
      omega (
        arith,
        json-parts (sheet_figures L text) ds ss rs (printed-fit L four ten text short),
        room-enough L (omega arith) ten text (288 + 108 * field_count) (length (entries_of_densities ds (length ds)) + length (entries_of_spacings ss (length ss))) (length (entries_of_records rs (length rs / 10)))
            (omega arith) (omega (arith, densities-count L text, spacings-count L text)) (omega (arith, records-count (notes L text))),
      )
