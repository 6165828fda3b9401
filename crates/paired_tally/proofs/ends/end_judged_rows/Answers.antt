-- `ends::end_judged_rows` meets its contract. The loop's invariant: the first i rows are counted whole, of the others the cells alone, and so many
-- holds are open.
use Prim.Native.Nat.{◌<◌}
use native.Mathlib.Omega.{arith}
use lib.ListN.{length}
use Rattle.paired_tally.proofs.RowEnds.{judged-start, arrows-few, ends-open, held-few, judged-ending, judged-end}
use Rattle.paired_tally.proofs.ends.end_judged_rows.Goals.{In-loop-i}
use Rattle.paired_tally.proofs.ends.end_judged_rows.Goals as goal

pub loop-i-init : goal.loop-i-init
loop-i-init c = λ J L all n m x. judged-start x

pub end_judged_row-requires : goal.end_judged_row-requires
end_judged_row-requires c =
    let x = c.requires.reached.left in
    let here : c.loop-i.i < length x.rows = omega (arith, x.size, c.loop-i-test.true) in
    let few = arrows-few x.paired _ here c.requires.reached.narrow in
    let e = c.loop-i.invariant _ _ _ x.size c.requires.reached.narrow x.paired in
    record {
      few = omega (arith, e.ending.low, c.requires.rows_few, c.loop-i-test.true);
      arrows_few = omega (arith, few, c.arrows-arrows.ensures);
      others_few = omega (arith, c.others-others.ensures);
      held_few = omega (arith, held-few x.paired _ here c.requires.reached.narrow e, c.requires.rows_few, c.loop-i-test.true);
    }

pub overflow_add-active : goal.overflow_add-active
overflow_add-active c =
    let x = c.requires.reached.left in
    let here : c.loop-i.i < length x.rows = omega (arith, x.size, c.loop-i-test.true) in
    let e = c.loop-i.invariant _ _ _ x.size c.requires.reached.narrow x.paired in
    omega (arith, held-few x.paired _ here c.requires.reached.narrow e, c.heads-opened.ensures, c.requires.rows_few, c.loop-i-test.true)

pub overflow_sub-active : goal.overflow_sub-active
overflow_sub-active c =
    let x = c.requires.reached.left in
    let here : c.loop-i.i < length x.rows = omega (arith, x.size, c.loop-i-test.true) in
    let e = c.loop-i.invariant _ _ _ x.size c.requires.reached.narrow x.paired in
    omega (arith, ends-open x.paired _ here c.requires.reached.narrow e, c.heads-opened.ensures, c.ends-ends.ensures)

pub loop-i-preserved : goal.loop-i-preserved
loop-i-preserved c = λ J L all n m x.
    let here : c.loop-i.i < length all = omega (arith, n, c.loop-i-test.true) in
    let e = c.loop-i.invariant _ _ _ n m x in
    judged-ending x _ here m e (rw (c.arrows-arrows.ensures, c.others-others.ensures) at c.end_judged_row.ensures)
    (omega (arith, c.heads-opened.ensures, c.ends-ends.ensures, ends-open x _ here m e))

pub returns : goal.returns
returns c = λ J L all n m x. judged-end (omega (arith, n, c.loop-i-test.false)) (c.loop-i.invariant _ _ _ n m x)
