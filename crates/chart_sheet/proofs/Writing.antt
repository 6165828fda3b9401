-- From what the calls leave of an accepted text to its sheet.
use mathlib.Core.Path.{◌≡◌, ap, sym, ◌∙◌}
use mathlib.Core.List.{List}
use Prim.Native.Nat.{ℕ, ◌+◌, ◌*◌, ◌≤◌}
use native.Mathlib.Nat.{mul-le-mul_right, div-le_self}
use native.Mathlib.Omega.{arith}
use lib.ListN.{length, take, length-append, length-replicate}
use lib.Seq.{take_at}
use Rattle.definitions.specs.Sizes.{most_bytes}
use Rattle.definitions.specs.Lists.{padded}
use Rattle.definitions.specs.Lanes.{most_rows_in}
use Rattle.definitions.specs.Figures.{densities, spacings}
use Rattle.definitions.specs.Notes.{notes}
use Rattle.definitions.specs.Records.{records}
use Rattle.definitions.specs.Entries.{figures_of_chart, row_count}
use Rattle.definitions.proofs.Counts.{rows_few, notes-few}
use Rattle.definitions.proofs.ReadBack.{records-length}
use Rattle.definitions.specs.declared.ChartFigures.{ChartFigures}
use Rattle.sheet.specs.declared.SheetFigures.{SheetFigures}
use Rattle.sheet_answers.specs.Answers.{sheet_figures}
use Rattle.chart_sheet.specs.Forms.{form_of, sheet_in_form}
use Rattle.chart_sheet.proofs.Counts.{densities-count, spacings-count}
use Rattle.chart_sheet.proofs.Answering.{form-sheet, sheet-room}

-- the answers of a text, and what is left in the slices of densities, spacings and notes
pub record Gathered (L : ℕ) (text ds ss ns : List ℕ) (d s n : ℕ) (a : SheetFigures) : Type 0 where
  pub four : 4 ≤ L
  pub ten : L ≤ 10
  pub short : length text ≤ most_bytes
  pub answers : a ≡ sheet_figures L text
  pub densities_are : ds ≡ padded 0 d (densities L text)
  pub spacings_are : ss ≡ padded 0 s (spacings L text)
  pub notes_are : ns ≡ padded 0 n (records (notes L text))
  pub densities_length : length ds ≡ d
  pub spacings_length : length ss ≡ s
  pub notes_length : length ns ≡ n

-- an answer that was padded to n entries has at most n
padded-fits : (l : List ℕ) (n : ℕ) → length (padded 0 n l) ≡ n → length l ≤ n
padded-fits l n e = omega (arith, simp (length-append, length-replicate) at e)

module _ {L : ℕ} {text ds ss ns : List ℕ} {d s n : ℕ} {a : SheetFigures} (g : Gathered L text ds ss ns d s n a) where
  pub chart_is : a.chart ≡ figures_of_chart L text
  unfolding sheet_figures
  chart_is = ap (λ (x : SheetFigures). x.chart) g.answers

  measures-count : a.chart.measures ≡ length (densities L text)
  unfolding figures_of_chart
  measures-count = ap (λ (f : ChartFigures). f.measures) chart_is ∙ sym (densities-count L text)

  notes-count : a.chart.notes ≡ length (notes L text)
  unfolding figures_of_chart
  notes-count = ap (λ (f : ChartFigures). f.notes) chart_is

  pub measures-fit : a.chart.measures ≤ length ds
  measures-fit =
      let few : length (densities L text) ≤ d = padded-fits (densities L text) d (ap length (sym g.densities_are) ∙ g.densities_length) in
      omega (arith, few, measures-count, g.densities_length)

  pub spacings-fit : a.chart.measures ≤ length ss
  spacings-fit =
      let few : length (spacings L text) ≤ s = padded-fits (spacings L text) s (ap length (sym g.spacings_are) ∙ g.spacings_length) in
      omega (arith, few, measures-count, densities-count L text, spacings-count L text, g.spacings_length)

  pub notes-fit : a.chart.notes * 10 ≤ length ns
  notes-fit =
      let few : length (records (notes L text)) ≤ n = padded-fits (records (notes L text)) n (ap length (sym g.notes_are) ∙ g.notes_length) in
      omega (arith, few, records-length (notes L text), notes-count, g.notes_length)

  -- a bound by which ten times as many do not wrap
  pub notes-small : a.chart.notes ≤ 167772160
  unfolding most_rows_in
  notes-small =
      let rows = row_count L text in
      let wide : L * rows ≤ 10 * rows = mul-le-mul_right rows g.ten in
      omega (arith, notes-count, notes-few L text, wide, rows_few L text (omega (arith, g.four)), div-le_self (length text + 1) (L + 1), g.short)

  densities-part : take a.chart.measures ds ≡ densities L text
  densities-part = ap (take a.chart.measures) g.densities_are ∙ take_at (densities L text) _ a.chart.measures (sym measures-count)

  spacings-part : take a.chart.measures ss ≡ spacings L text
  spacings-part =
      ap (take a.chart.measures) g.spacings_are
      ∙ take_at (spacings L text) _ a.chart.measures (spacings-count L text ∙ sym (densities-count L text) ∙ sym measures-count)

  notes-part : take (a.chart.notes * 10) ns ≡ records (notes L text)
  notes-part =
      ap (take (a.chart.notes * 10)) g.notes_are
      ∙ take_at (records (notes L text)) _ (a.chart.notes * 10) (records-length (notes L text) ∙ ap (λ (k : ℕ). k * 10) (sym notes-count))

  -- the form that is put of these answers and parts
  abbrev form_to_put : ℕ → List ℕ
  form_to_put form = form_of form a (take a.chart.measures ds) (take a.chart.measures ss) (take (a.chart.notes * 10) ns)

  whole : (form : ℕ) → form_to_put form ≡ form_of form (sheet_figures L text) (densities L text) (spacings L text) (records (notes L text))
  whole form =
      ap (λ (l : List ℕ). form_of form a l (take a.chart.measures ss) (take (a.chart.notes * 10) ns)) densities-part
      ∙ ap (λ (l : List ℕ). form_of form a (densities L text) l (take (a.chart.notes * 10) ns)) spacings-part
      ∙ ap (λ (l : List ℕ). form_of form a (densities L text) (spacings L text) l) notes-part
      ∙ ap (λ (x : SheetFigures). form_of form x (densities L text) (spacings L text) (records (notes L text))) g.answers

  pub form-is : (form : ℕ) → form_to_put form ≡ sheet_in_form form L text
  form-is form = whole form ∙ form-sheet form L (omega (arith, g.four)) g.ten text g.short

  pub form-fits : (form : ℕ) → length (form_to_put form) ≤ 42 * (length text + 1) + 3000
  form-fits form = rw (form-is form) (sheet-room L g.four g.ten form text g.short)
