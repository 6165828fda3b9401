-- `reader::back::look_ahead` meets its contract: the rows of what is left are those from its first line on.
use Rattle.std.proofs.Common.{◌∷◌, take, sym, ap, ◌∙◌, arith, rules}
use mathlib.Core.Logic.{inl}
use lib.Seq.{length-take-le}
use Rattle.std.proofs.lemmas.List.{nil_from_length}
use Rattle.definitions.specs.ReadBack.{rows_read_back}
use Rattle.reader.proofs.Cuts.{after-less}
use Rattle.reader.proofs.BackLoops.{rows-none}
use Rattle.reader.proofs.PlainBack.{rows-step, rows-near, row-within}
use Rattle.reader.proofs.back.look_ahead.Goals as goal

pub slice_bounds-result-end-then-is_back_row : goal.slice_bounds-result-end-then-is_back_row
slice_bounds-result-end-then-is_back_row c = sym (length-take-le c.args.lanes.count _ (row-within _ _ (sym c.is_back_row.ensures ∙ c.if-is_back_row.true)))

pub returns-then-is_back_row-clause-rows : goal.returns-then-is_back_row-clause-rows
returns-then-is_back_row-clause-rows c =
    c.loop-lanes.invariant.1
    ∙ rows-step _ _ _ (omega (arith, c.args.lanes.within)) (sym c.if-is_back_row.true ∙ c.is_back_row.ensures)
    ∙ ap (λ s. take c.args.lanes.count c.loop-lanes.rest.now ∷ rows_read_back c.args.lanes.count s) (sym c.next_line.ensures.below)

pub returns-then-is_near_row-clause-rows : goal.returns-then-is_near_row-clause-rows
returns-then-is_near_row-clause-rows c =
    let w = c.args.lanes.within in
    c.loop-lanes.invariant.1 ∙ rows-near _ _ _ w.0 w.1 (sym c.is_near_row.ensures ∙ c.if-is_near_row.true) (inl (sym c.below_cells.ensures))

pub loop-lanes-smaller : goal.loop-lanes-smaller
loop-lanes-smaller c = after-less _ _ (search rules) c.next_line.ensures.below

pub loop-lanes-preserved : goal.loop-lanes-preserved
loop-lanes-preserved c = (
  c.step_told-told.ensures,
  c.loop-lanes.invariant.1
      ∙ rows-step _ _ _ (omega (arith, c.args.lanes.within)) (sym c.if-is_back_row.false ∙ c.is_back_row.ensures)
      ∙ ap (rows_read_back c.args.lanes.count) (sym c.next_line.ensures.below),
)

pub step_told-told-requires : goal.step_told-told-requires
step_told-told-requires c = after-less _ _ (search rules) c.next_line.ensures.below

pub returns-clause-rows : goal.returns-clause-rows
returns-clause-rows c =
    let ended = nil_from_length c.loop-lanes.rest.now (search rules) in
    let none = ap (rows_read_back c.args.lanes.count) ended ∙ rows-none c.args.lanes.count (omega (arith, c.args.lanes.within)) in
    (c.loop-lanes.invariant.1 ∙ none, none)
