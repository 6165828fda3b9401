-- `measure_tally::Counting::count_rows` meets its contract: the row at `at` has `lanes` bytes, few rows are counted before it, and it is one row more.
use mathlib.Core.Path.{sym, subst}
use Prim.Native.Nat.{◌≤◌}
use native.Mathlib.Omega.{arith}
use lib.ListN.{length, take}
use lib.Seq.{take_all}
use Rattle.reduction.proofs.RowsAt.{rows-length}
use Rattle.reduction.proofs.Powers.{next-at}
use Rattle.reduction.specs.Rows.{rows_of}
use Rattle.measure_tally.specs.Counted.{Counted}
use Rattle.measure_tally.proofs.Rows.{counted-grown}
use Rattle.measure_tally.proofs.Places.{row-wide, row_more}
use Rattle.measure_tally.proofs.Counting.count_rows.Goals as goal

pub count_row-requires : goal.count_row-requires
count_row-requires c =
    let a = c.args in
    let L = a.table.now.lanes.count in
    let ms = rows_of L a.rows a.text.now a.start in
    let some = c.requires.counted in
    let x = c.loop-i.invariant.counted some.done some.held in
    let grown = counted-grown _ _ _ _ ms 0 c.loop-i.i (omega arith) (rw rows-length c.loop-i.invariant.within) some.held x in
    record {
      wide = row-wide L a.rows a.text.now a.start c.requires.in_text c.loop-i.i c.loop-i.at c.loop-i-test.true c.loop-i.invariant.stands;
      rows_few = omega (arith, grown, c.requires.rows_few, c.loop-i-test.true);
      few = x.few;
    }

pub loop-i-preserved : goal.loop-i-preserved
loop-i-preserved c =
    let a = c.args in
    let lanes = a.table.now.lanes in
    let L = lanes.count in
    let ms = rows_of L a.rows a.text.now a.start in
    let wide = row-wide L a.rows a.text.now a.start c.requires.in_text c.loop-i.i c.loop-i.at c.loop-i-test.true c.loop-i.invariant.stands in
    let more = row_more L a.rows a.text.now a.start c.requires.in_text c.loop-i.i c.loop-i.at c.loop-i-test.true c.loop-i.invariant.stands in
    record {
      within = omega (arith, c.loop-i-test.true);
      stands = next-at c.loop-i.at a.start c.loop-i.i L c.loop-i.invariant.stands;
      counted = λ done x. subst (Counted L _ done) (sym more)
          (c.count_row.ensures L done (take c.loop-i.i ms) (omega (arith, wide)) lanes.within.1 (c.loop-i.invariant.counted done x));
    }

pub returns : goal.returns
returns c =
    let a = c.args in
    let L = a.table.now.lanes.count in
    let ms = rows_of L a.rows a.text.now a.start in
    let all : length ms ≤ c.loop-i.i = rw rows-length c.loop-i-test.false in
    λ done x. subst (Counted L _ done) (take_all c.loop-i.i ms all) (c.loop-i.invariant.counted done x)
