-- Every figure of an accepted text, in its place among the 32 of its call, is below 2 ^ 64.
use mathlib.Core.Path.{◌≡◌, ap, subst}
use Rattle.std.specs.Prelude.{Ok}
use Rattle.std.proofs.Common.{ℕ, ◌+◌, ◌*◌, ◌/◌, ◌^◌, ◌<◌, ◌≤◌, Bool, true, List, length, length-append, All, le-div_iff_mul-le, mul-suc, mul_comm, mul-le-mul_right, arith}
use Rattle.std.proofs.lemmas.List.Elements.{All-from_recursion}
use Rattle.std.proofs.lemmas.List.Sums.{count_by-le-length}
use native.Mathlib.Numerals.{add-one}
use Rattle.definitions.specs.Sizes.{most_bytes}
use Rattle.definitions.specs.Lists.{joined}
use Rattle.definitions.specs.Lanes.{most_rows_in}
use Rattle.definitions.specs.Lines.{Row}
use Rattle.definitions.specs.Reduction.{minimised}
use Rattle.definitions.specs.Figures.{minimised_text}
use Rattle.definitions.specs.Notes.{notes}
use Rattle.definitions.specs.Dropped.{dropped_heads}
use Rattle.definitions.specs.Tracker.{hold_at}
use Rattle.definitions.specs.Written.{written_text, written_length, notes_in, sum_of}
use Rattle.definitions.specs.WrittenBack.{WrittenReadsBack}
use Rattle.definitions.specs.Correction.{is_opening}
use Rattle.definitions.specs.Objects.{last48}
use Rattle.definitions.specs.ReadBack.{rows_read_back, main_tally, kept_tally}
use Rattle.definitions.specs.Judged.{judged_at, judged_rows, judged_tally, flagged_tally}
use Rattle.definitions.specs.TimingRows.{timing_rows, timing_heads}
use Rattle.definitions.specs.Entries.{measure_count, row_count, figures_of_chart, places_of_chart, figures_of_kept, places_of_kept, figures_of_dropped, places_of_dropped, figures_of_written, places_of_written, written_answer, figures_of_timing, places_of_timing, places_of_measures, figures_of_last, places_of_last, places_of_judged}
use Rattle.definitions.specs.declared.WrittenFigures.{WrittenFigures}
use Rattle.definitions.proofs.Lists.{All as Each, none, one, all_map, all-joined, one-le}
use Rattle.definitions.proofs.ChartRows.{minimised-narrow, minimised-short}
use Rattle.definitions.proofs.Counts.{measures-few, rows_few, notes-few}
use Rattle.definitions.proofs.DroppedOrNoted.{dropped-or-noted}
use Rattle.definitions.proofs.ReadBack.{records-length}
use Rattle.definitions.proofs.Written.Reads.{passed, written-reads-back}
use Rattle.definitions.proofs.RowBounds.{read-narrow, read-few}
use Rattle.beats.proofs.LastRows.{last48-most, last_bits-most}
use Rattle.row_tally.specs.Bounds.{Below}
use Rattle.row_tally.proofs.Tallies.{Narrow, corrected-below, judged-below}

-- a figure, and each of these
abbrev pub Fits : ℕ → Type 0
Fits x = x < 2 ^ 64

abbrev pub AllFit : List ℕ → Type 0
AllFit l = All Fits l

narrow : {L : ℕ} {rows : List Row} → L ≤ 10 → Each (λ (r : Row). length r ≤ L) rows → Narrow rows
narrow h a = all_map (λ r w. omega arith) a

-- a judged tally, with any rows judged, of a text that may be a byte longer than an accepted one
tally-judged-fits : (L : ℕ) → L ≤ 10 → (J : ℕ → Bool) (text : List ℕ) → length text ≤ most_bytes + 1
    → AllFit (places_of_judged (judged_rows L J (rows_read_back L text)))
tally-judged-fits L ten J text h =
    let tally : Below 167772170 (judged_rows L J (rows_read_back L text)) = judged-below L 16777217 J (narrow ten (read-narrow L text)) (omega (arith, read-few L text)) in
    All-from_recursion Fits (places_of_judged (judged_rows L J (rows_read_back L text))) (omega arith)

module _ (L : ℕ) (four : 4 ≤ L) (ten : L ≤ 10) (text : List ℕ) (short : length text ≤ most_bytes) where
  -- ---- The figures
  bytes-few : length (minimised_text L text) ≤ most_bytes + 1
  bytes-few = omega (arith, minimised-short L text)

  measures-most : measure_count L text ≤ 8388609
  measures-most = omega (arith, measures-few L text)

  rows-most : row_count L text < 4194304
  unfolding most_rows_in
  rows-most = few (row_count L text) (length text + 1) L (rows_few L text (omega arith)) (omega arith) four
    where
      few : (r n L : ℕ) → r ≤ n / (L + 1) → n ≤ 16777216 → 4 ≤ L → r < 4194304
      few r n L a b c =
          let some : 0 < L + 1 = omega arith in
          omega (arith, rw (add-one L, mul-suc, mul_comm r L) at ((le-div_iff_mul-le some).0 a), mul-le-mul_right r c)

  notes-most : length (notes L text) < 2 ^ 64
  notes-most = omega (arith, notes-few L text, rows-most, mul-le-mul_right (row_count L text) ten)

  last-most : last48 L text < 2 ^ 64
  last-most = omega (arith, last48-most L text rows-most measures-most)

  own-rows : Narrow (joined (minimised L text))
  own-rows = narrow ten (all-joined (minimised-narrow L text))

  written-few : length (timing_rows L text) < 2 ^ 64
  unfolding timing_rows
  written-few = omega (arith, each-few own-rows, rows-most)
    where
      each-few : {rows : List Row} → Narrow rows → length (joined rows) ≤ 10 * length rows
      each-few none = omega arith
      each-few (one {a = r} {l = rs} w a) = omega (arith, length-append r (joined rs), each-few a)

  -- at most one dropped head in a cell
  heads-most : length (dropped_heads L text) < 2 ^ 64
  unfolding timing_rows
  heads-most =
      let cells : List ℕ = joined (joined (minimised L text)) in
      omega (arith, (dropped-or-noted L text).sum, count_by-le-length (λ b. is_opening (hold_at b)) cells, written-few)

  main-below : Below 167772170 (main_tally L text)
  unfolding main_tally
  main-below =
      let back = minimised_text L text in
      corrected-below L 16777217 own-rows (narrow ten (read-narrow L back)) (omega (arith, rows-most)) (omega (arith, read-few L back, bytes-few))

  kept-below : Below 167772170 (kept_tally L text)
  unfolding kept_tally
  kept-below = corrected-below L 16777217 own-rows own-rows (omega (arith, rows-most)) (omega (arith, rows-most))

  -- ---- Each call's, in their places
  pub chart-fits : AllFit (places_of_chart (figures_of_chart L text))
  unfolding figures_of_chart
  chart-fits =
      let tally = main-below in
      All-from_recursion Fits (places_of_chart (figures_of_chart L text)) (omega (arith, bytes-few, measures-most, rows-most, notes-most, last_bits-most L text, last-most))

  pub kept-fits : AllFit (places_of_kept (figures_of_kept L text))
  unfolding figures_of_kept
  kept-fits =
      let tally = kept-below in
      All-from_recursion Fits (places_of_kept (figures_of_kept L text)) (omega (arith, bytes-few, measures-most, rows-most))

  pub dropped-fits : AllFit (places_of_dropped (figures_of_dropped L text))
  unfolding figures_of_dropped
  dropped-fits = All-from_recursion Fits (places_of_dropped (figures_of_dropped L text)) (omega (arith, bytes-few, measures-most, rows-most, heads-most))

  pub timing-fits : AllFit (places_of_timing (figures_of_timing L text))
  unfolding figures_of_timing
  timing-fits = All-from_recursion Fits (places_of_timing (figures_of_timing L text)) (omega (arith, written-few, rows-most, one-le (timing_heads L text)))

  pub measures-fit : AllFit (places_of_measures (measure_count L text))
  measures-fit = All-from_recursion Fits (places_of_measures (measure_count L text)) (omega (arith, measures-most))

  pub last-fits : AllFit (places_of_last (figures_of_last L text))
  unfolding figures_of_last
  last-fits = All-from_recursion Fits (places_of_last (figures_of_last L text)) (omega (arith, last_bits-most L text, last-most))

  pub judged-fits : AllFit (places_of_judged (judged_tally L text))
  unfolding judged_tally
  judged-fits = tally-judged-fits L ten (λ i. true) text (omega arith)

  pub flagged-fits : (flags : List ℕ) → AllFit (places_of_judged (flagged_tally L flags text))
  unfolding flagged_tally
  flagged-fits flags = tally-judged-fits L ten (judged_at flags) text (omega arith)

  -- the judged tally on a sheet, which is that of the minimised text
  pub sheet_judged-fits : AllFit (places_of_judged (judged_tally L (minimised_text L text)))
  unfolding judged_tally
  sheet_judged-fits = tally-judged-fits L ten (λ i. true) (minimised_text L text) bytes-few

-- ---- Of records s in bytes and row counts that are accepted
module _ (L : ℕ) (s counts room : List ℕ) (f : WrittenFigures) (bytes : All (λ b. b < 256) s) (answer : written_answer L s counts room ≡ Ok f) where
  -- the records are those of the text that is written
  records-most : length s / 10 < 2 ^ 64
  unfolding WrittenReadsBack
  records-most =
      let p = passed L s counts room f answer in
      let x = written-reads-back L s counts room f bytes answer in
      let text = written_text L (notes_in s) counts in
      omega (arith, ap length x.records_back, records-length (notes L text), notes-most L p.lanes.0 p.lanes.1 text (omega (arith, p.short, x.size)))

  sum-most : sum_of counts ≤ most_bytes
  unfolding written_length
  sum-most =
      let one-more : 1 ≤ L + 1 = omega arith in
      omega (arith, (passed L s counts room f answer).short, mul-le-mul_right (sum_of counts) one-more)

  counts-most : length counts ≤ most_bytes
  unfolding written_length
  counts-most = omega (arith, (passed L s counts room f answer).short)

  pub written-fits : AllFit (places_of_written f)
  unfolding figures_of_written
  written-fits =
      let p = passed L s counts room f answer in
      subst (λ (x : WrittenFigures). AllFit (places_of_written x)) p.told
      (All-from_recursion Fits (places_of_written (figures_of_written L s counts)) (omega (arith, p.short, sum-most, counts-most, records-most)))
