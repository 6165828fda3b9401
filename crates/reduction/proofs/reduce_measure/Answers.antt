-- `reduction::reduce_measure` meets its contract: the search gives the stride, and the compaction goes by it. Assumes nothing.
use Prim.Native.Nat.{◌+◌}
use native.Mathlib.Omega.{arith}
use native.Mathlib.Nat.{le-mul_of_pos_right, mul_comm}
use Rattle.reduction.proofs.Forms.{none-reduced, none_stays, reduced-by}
use Rattle.reduction.proofs.reduce_measure.Goals as goal

pub returns-then-rows-eq0-clause-value : goal.returns-then-rows-eq0-clause-value
returns-then-rows-eq0-clause-value c = none-reduced (c.args.lanes + c.args.after) c.args.lanes c.args.rows c.args.start c.args.text.now c.if-rows-eq0.true

pub returns-then-rows-eq0-clause-text_after : goal.returns-then-rows-eq0-clause-text_after
returns-then-rows-eq0-clause-text_after c = none_stays (c.args.lanes + c.args.after) c.args.lanes c.args.rows c.args.start c.args.text.now c.if-rows-eq0.true

-- a row is no longer than the text
pub overflow_add-width : goal.overflow_add-width
overflow_add-width c =
    let width = c.args.lanes + c.args.after in
    omega (arith, c.requires.in_text, le-mul_of_pos_right {m = c.args.rows} width (omega (arith, c.if-rows-eq0.false)), mul_comm c.args.rows width)

pub returns : goal.returns
returns c =
    let found = c.measure_reduce_shift-shift.ensures in
    let moved = c.compact_output_rows.ensures in
    let all = reduced-by _ _ _ _ _ _ _ _ found.value found.divides moved.value moved.text_after in
    record { value = all.0; text_after = all.1 }
