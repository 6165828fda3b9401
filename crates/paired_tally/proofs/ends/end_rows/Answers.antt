-- `ends::end_rows` meets its contract. The loop's invariant: the first i rows are counted whole, and of the others the cells alone.
use Prim.Native.Nat.{◌<◌}
use native.Mathlib.Omega.{arith}
use lib.ListN.{length}
use Rattle.paired_tally.proofs.RowEnds.{ending-start, entry-few, ending-next, ending-end}
use Rattle.paired_tally.proofs.ends.end_rows.Goals as goal

pub loop-i-init : goal.loop-i-init
loop-i-init c = λ J L all n m x. ending-start x

pub end_row-requires : goal.end_row-requires
end_row-requires c =
    let x = c.requires.reached.left in
    let here : c.loop-i.i < length x.rows = omega (arith, x.size, c.loop-i-test.true) in
    let few = entry-few x.paired _ here c.requires.reached.narrow in
    let low = (c.loop-i.invariant _ _ _ x.size c.requires.reached.narrow x.paired).low in
    record {
      few = omega (arith, low, c.requires.rows_few, c.loop-i-test.true);
      arrows_few = omega (arith, few.0, c.arrows-arrows.ensures);
      heads_few = omega (arith, few.1, c.heads-heads.ensures);
    }

pub loop-i-preserved : goal.loop-i-preserved
loop-i-preserved c = λ J L all n m x.
    ending-next x _ (omega (arith, n, c.loop-i-test.true)) m (c.loop-i.invariant _ _ _ n m x) (rw (c.arrows-arrows.ensures, c.heads-heads.ensures, c.ends-tails.ensures) at c.end_row.ensures)

pub returns : goal.returns
returns c = λ J L all n m x. ending-end (omega (arith, n, c.loop-i-test.false)) (c.loop-i.invariant _ _ _ n m x)
