-- `judged_pass::judge_clean` meets its contract. The loop's invariant: what the pass has is that of the rows that have come, and they were clean.
use mathlib.Core.Path.{sym, ◌∙◌}
use native.Mathlib.Omega.{arith}
use borrow.Author.Tests.{not-true, not-false}
use Rattle.reader.proofs.BackLoops.{back-start, back-more, next-all, next-wide, rows-wide, all-came}
use Rattle.judged.proofs.JudgedPass.{passes-start, passes-few, passes-row, passes-unclean, passes-open, passes-end}
use Rattle.judged.proofs.judged_pass.judge_clean.Goals as goal

pub loop-row-init : goal.loop-row-init
loop-row-init c =
    back-start _ _ (c.into_iter-row-iterator.ensures.into_iter_gives ∙ c.back_rows-row-items.ensures) c.args.lanes.within.0
    (passes-start _ _ _ c.new-rows.ensures.ready c.new-rows.ensures.nothing_counted c.new-rows.ensures.none_open)

pub add_row-requires : goal.add_row-requires
add_row-requires c =
    let x = c.loop-row.invariant.come in
    let wide = next-wide x c.in-Some.ensures.steps in
    record {
      wide = c.for_lanes-table.ensures ∙ sym wide;
      ready = c.loop-row.invariant.held.ready;
      few = passes-few _ _ _ _ c.loop-row.invariant.held (omega (arith, x.few));
    }

pub returns-in_err-add_row : goal.returns-in_err-add_row
returns-in_err-add_row c =
    let x = c.loop-row.invariant.come in
    c.from_residual.ensures
    ∙ passes-unclean _ _ _ _ c.loop-row.invariant.held _ _ (next-all x c.in-Some.ensures.steps) (not-false _ (sym c.in_err-add_row.ensures.clean))

pub loop-row-preserved : goal.loop-row-preserved
loop-row-preserved c =
    let x = c.loop-row.invariant.come in
    let e = c.in-Some.ensures.steps in
    back-more c.loop-row.invariant _ e
    (passes-row _ _ _ _ c.loop-row.invariant.held _ _ (next-all x e) c.args.lanes.within.1
    (next-wide x e)
    (rows-wide _ _)
    (not-true _ (sym c.in_ok-add_row.ensures.clean)) _ c.in_ok-add_row.ensures.passed)

pub returns-then-rows-ne0 : goal.returns-then-rows-ne0
returns-then-rows-ne0 c =
    let x = c.loop-row.invariant.come in
    passes-open _ _ _ _ c.loop-row.invariant.held (all-came x c.in-None.ensures.steps.0) c.if-rows-ne0.true

pub returns : goal.returns
returns c =
    let x = c.loop-row.invariant.come in
    passes-end _ _ _ _ c.loop-row.invariant.held (all-came x c.in-None.ensures.steps.0) c.if-rows-ne0.false
