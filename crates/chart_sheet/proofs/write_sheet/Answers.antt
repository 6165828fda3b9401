-- `chart_sheet::write_sheet` meets its contract: the form of the answers is the text's sheet, and it has room.
use mathlib.Core.Path.{refl, ap, sym, ◌∙◌}
use mathlib.Core.List.{List}
use Prim.Native.Nat.{ℕ}
use native.Mathlib.Omega.{arith}
use lib.ListN.{length, set}
use lib.Seq.{length-take-le}
use Rattle.definitions.specs.Entries.{figures_of_chart, places_of_chart}
use Rattle.slices.proofs.Zeroed.{zeroed-answer}
use Rattle.chart_sheet.specs.Forms.{sheet_in_form}
use Rattle.chart_sheet.proofs.Writing.{Gathered, measures-fit, spacings-fit, notes-fit, notes-small, form-is, form-fits, chart_is}
use Rattle.chart_sheet.proofs.write_sheet.Goals as goal
use Rattle.chart_sheet.proofs.write_sheet.Goals.{After-sheet_answers-figures}

-- the answers and what is left in three of the slices
gathered : (c : After-sheet_answers-figures) → Gathered
    c.args.lanes.count
    c.args.data.now
    c.sheet_answers-figures.new.densities
    c.sheet_answers-figures.new.spacing
    c.sheet_answers-figures.new.notes
    (length c.args.densities.now)
    (length c.args.spacing.now)
    (length c.args.notes.now)
    c.sheet_answers-figures.result
gathered c =
    let x = c.sheet_answers-figures in
    record {
      four = c.args.lanes.within.0;
      ten = c.args.lanes.within.1;
      short = c.requires.text_length;
      answers = x.ensures.value;
      densities_are = x.ensures.densities_after;
      spacings_are = x.ensures.spacing_after;
      notes_are = x.ensures.notes_after;
      densities_length = x.auto.densities;
      spacings_length = x.auto.spacing;
      notes_length = x.auto.notes;
    }

pub overflow_mul-end : goal.overflow_mul-end
overflow_mul-end c = omega (arith, notes-small (gathered (goal.at.overflow_mul-end c).After-sheet_answers-figures))

pub slice_bounds-put_form-end : goal.slice_bounds-put_form-end
slice_bounds-put_form-end c = measures-fit (gathered (goal.at.slice_bounds-put_form-end c).After-sheet_answers-figures)

pub slice_bounds-put_form-end-2 : goal.slice_bounds-put_form-end-2
slice_bounds-put_form-end-2 c = sym (length-take-le _ _ (measures-fit (gathered (goal.at.slice_bounds-put_form-end-2 c).After-sheet_answers-figures)))

pub slice_bounds-put_form-end-3 : goal.slice_bounds-put_form-end-3
slice_bounds-put_form-end-3 c = spacings-fit (gathered (goal.at.slice_bounds-put_form-end-3 c).After-sheet_answers-figures)

pub slice_bounds-put_form-end-4 : goal.slice_bounds-put_form-end-4
slice_bounds-put_form-end-4 c = sym (length-take-le _ _ (spacings-fit (gathered (goal.at.slice_bounds-put_form-end-4 c).After-sheet_answers-figures)))

pub slice_bounds-put_form-end-5 : goal.slice_bounds-put_form-end-5
slice_bounds-put_form-end-5 c = notes-fit (gathered (goal.at.slice_bounds-put_form-end-5 c).After-sheet_answers-figures)

pub slice_bounds-put_form-end-6 : goal.slice_bounds-put_form-end-6
slice_bounds-put_form-end-6 c = sym (length-take-le _ _ (notes-fit (gathered (goal.at.slice_bounds-put_form-end-6 c).After-sheet_answers-figures)))

pub put_form-bytes-requires : goal.put_form-bytes-requires
put_form-bytes-requires c =
    let g = gathered (goal.at.put_form-bytes-requires c).After-sheet_answers-figures in
    let ds = length-take-le _ _ (measures-fit g) in
    let ss = length-take-le _ _ (spacings-fit g) in
    record {
      sheet_room = omega (arith, form-fits g c.args.form);
      densities_in_bounds = omega (arith, ds);
      spacing_in_bounds = omega (arith, ds, ss);
    }

pub returns-clause-value : goal.returns-clause-value
returns-clause-value c =
    let g = gathered (goal.at.returns-clause-value c).After-sheet_answers-figures in
    let form = c.put_form-bytes in
    let places = c.places-places.ensures ∙ ap places_of_chart (chart_is g) in
    ap (λ (m : List ℕ). set m 7 form.result) places
    ∙ ap (set (places_of_chart (figures_of_chart c.args.lanes.count c.args.data.now)) 7) (form.ensures.value ∙ ap length (form-is g c.args.form))

pub returns-clause-sheet_after : goal.returns-clause-sheet_after
returns-clause-sheet_after c =
    let g = gathered (goal.at.returns-clause-sheet_after c).After-sheet_answers-figures in
    let form = c.put_form-bytes in
    c.zero_past.ensures
    ∙ zeroed-answer 0 form.new.out form.result (length c.args.sheet.now) (λ (k : ℕ). sheet_in_form c.args.form c.args.lanes.count c.args.data.now) {L = 0} {L₁ = 0} refl form.auto.out
    form.ensures.within
    (form.ensures.out_after ∙ form-is g c.args.form)
