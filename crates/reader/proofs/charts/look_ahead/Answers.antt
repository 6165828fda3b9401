-- `reader::charts::look_ahead` meets its contract: the marks of what is left are those from its first line on.
use Rattle.std.proofs.Common.{None, ◌∷◌, sym, ap, ◌∙◌, rules}
use mathlib.Core.Logic.{inl}
use mathlib.Core.Path.{◌≡◌}
use lib.Seq.{length-take-le}
use Rattle.std.proofs.lemmas.List.{nil_from_length}
use Rattle.definitions.specs.Lines.{trim}
use Rattle.lines.proofs.Trims.{part-all}
use Rattle.reader.specs.Marks.{chart_marks}
use Rattle.reader.proofs.Cuts.{after-less}
use Rattle.reader.proofs.Marks.{marks-blanks, marks-comma, marks-semi, marks-other, marks-near, marks-just, marks-none, row-long, row-within, blanks-less}
use Rattle.reader.proofs.charts.look_ahead.Goals as goal
use Rattle.reader.proofs.charts.look_ahead.Goals.{After-is_near_row}

pub below_cells-requires : goal.below_cells-requires
below_cells-requires c = row-long _ _ (sym c.is_near_row.ensures ∙ c.if-is_near_row.true)

-- the blanks taken off
bare : (c : After-is_near_row) → chart_marks c.args.lanes.count c.args.text.now ≡ chart_marks c.args.lanes.count c.skip_ws-bare.result.now
bare c =
    c.loop-lanes.invariant
    ∙ marks-blanks _ c.loop-lanes.rest.now (search rules) (sym c.is_blank.ensures ∙ c.if-is_blank.true)
    ∙ ap (chart_marks c.args.lanes.count) (sym (c.skip_ws-bare.ensures ∙ ap trim (part-all c.loop-lanes.rest.now 1)))

pub returns-then-bare-step-eq10-clause-lines : goal.returns-then-bare-step-eq10-clause-lines
returns-then-bare-step-eq10-clause-lines c =
    let w = c.args.lanes.within in
    rw part-all (bare (goal.at.returns-then-bare-step-eq10-clause-lines c).After-is_near_row ∙ marks-just _ _ _ w.0 w.1 c.requires (sym c.is_near_row.ensures ∙ c.if-is_near_row.true) c.if-bare-step-eq10.true)

pub returns-then-is_near_row-clause-lines : goal.returns-then-is_near_row-clause-lines
returns-then-is_near_row-clause-lines c =
    let w = c.args.lanes.within in
    bare (goal.at.returns-then-is_near_row-clause-lines c).After-is_near_row ∙ marks-near _ _ _ w.0 w.1 (sym c.is_near_row.ensures ∙ c.if-is_near_row.true) (inl (sym c.below_cells.ensures))

pub loop-lanes-smaller-then-is_blank : goal.loop-lanes-smaller-then-is_blank
loop-lanes-smaller-then-is_blank c =
    rw (c.skip_ws-bare.ensures ∙ ap trim (part-all c.loop-lanes.rest.now 1)) (blanks-less c.loop-lanes.rest.now (search rules))

pub loop-lanes-preserved-then-is_blank : goal.loop-lanes-preserved-then-is_blank
loop-lanes-preserved-then-is_blank c =
    c.loop-lanes.invariant
    ∙ marks-blanks _ c.loop-lanes.rest.now (search rules) (sym c.is_blank.ensures ∙ c.if-is_blank.true)
    ∙ ap (chart_marks c.args.lanes.count) (sym (c.skip_ws-bare.ensures ∙ ap trim (part-all c.loop-lanes.rest.now 1)))

pub step_told-requires : goal.step_told-requires
step_told-requires c = after-less _ _ (search rules) c.below_comma-next.ensures

pub returns-then-first-eq44-clause-lines : goal.returns-then-first-eq44-clause-lines
returns-then-first-eq44-clause-lines c =
    c.loop-lanes.invariant
    ∙ marks-comma _ _ (search rules) c.if-first-eq44.true
    ∙ ap (λ s. None ∷ chart_marks c.args.lanes.count s) (sym c.below_comma-next.ensures)

pub returns-then-ends-clause-lines : goal.returns-then-ends-clause-lines
returns-then-ends-clause-lines c = (c.loop-lanes.invariant ∙ marks-semi _ _ (search rules) c.if-ends.true, marks-none _)

pub slice_bounds-result-end-then-is_row : goal.slice_bounds-result-end-then-is_row
slice_bounds-result-end-then-is_row c = sym (length-take-le c.args.lanes.count _ (row-within _ _ (sym c.is_row.ensures ∙ c.if-is_row.true)))

pub returns-then-is_row-clause-lines : goal.returns-then-is_row-clause-lines
returns-then-is_row-clause-lines c =
    c.loop-lanes.invariant
    ∙ marks-other _ _ _ _ (search rules) (sym c.is_blank.ensures ∙ c.if-is_blank.false) c.if-first-eq44.false c.if-ends.false (sym c.if-is_row.true ∙ c.is_row.ensures) c.below_line-below.ensures

pub loop-lanes-smaller : goal.loop-lanes-smaller
loop-lanes-smaller c = after-less _ _ (search rules) c.below_line-below.ensures

pub loop-lanes-preserved : goal.loop-lanes-preserved
loop-lanes-preserved c =
    c.loop-lanes.invariant
    ∙ marks-other _ _ _ _ (search rules) (sym c.is_blank.ensures ∙ c.if-is_blank.false) c.if-first-eq44.false c.if-ends.false (sym c.if-is_row.false ∙ c.is_row.ensures) c.below_line-below.ensures

pub returns-clause-lines : goal.returns-clause-lines
returns-clause-lines c =
    let ended = nil_from_length c.loop-lanes.rest.now (search rules) in
    let none = ap (chart_marks c.args.lanes.count) ended ∙ marks-none c.args.lanes.count in
    (c.loop-lanes.invariant ∙ none, none)
