-- `measure_tally::Counting::count_cells` meets its contract: all cells of the row are counted, and then it ends.
use native.Mathlib.Omega.{arith}
use lib.ListN.{length}
use Rattle.definitions.specs.Tally.{row_sum}
use Rattle.row_tally.proofs.Bounds.{below_more, under-row}
use Rattle.row_tally.proofs.Raised.{row-ended, cells-ends}
use Rattle.phantoms.proofs.Loop.{passed-end}
use Rattle.measure_tally.specs.Cells.{none}
use Rattle.measure_tally.proofs.Rows.{counted-row}
use Rattle.measure_tally.proofs.Line.{reached-start, reached_on, Lined, lined-cells, lined-stats, lined-arrows, lined-heads, lined-tails}
use Rattle.measure_tally.proofs.Counting.count_cells.Goals.{After-count_rest}
use Rattle.measure_tally.proofs.Counting.count_cells.Goals as goal

line : (c : After-count_rest) → Lined c.args.row.now c.args.self.now c.count_rest.new.self (length c.args.row.now)
line c =
    lined-cells c.args.row.now c.args.self.now _ (length c.args.row.now) c.requires.few.ten c.requires.narrow (omega arith) (c.count_rest.ensures _ (c.count_four.ensures _ none))

pub count_four-requires-clause-reached : goal.count_four-requires-clause-reached
count_four-requires-clause-reached c = reached-start _ _ c.requires.few c.requires.rows_few

pub count_rest-requires-clause-reached : goal.count_rest-requires-clause-reached
count_rest-requires-clause-reached c = reached_on _ _ _ (reached-start _ _ c.requires.few c.requires.rows_few) _ _ c.count_four.ensures

pub overflow_sub-arrows : goal.overflow_sub-arrows
overflow_sub-arrows c = omega (arith, lined-arrows _ _ _ _ (line (goal.at.overflow_sub-arrows c).After-count_rest) (omega arith))

pub overflow_sub-heads : goal.overflow_sub-heads
overflow_sub-heads c = omega (arith, lined-heads _ _ _ _ (line (goal.at.overflow_sub-heads c).After-count_rest) (omega arith))

pub overflow_sub-tails : goal.overflow_sub-tails
overflow_sub-tails c = omega (arith, lined-tails _ _ _ _ (line (goal.at.overflow_sub-tails c).After-count_rest) (omega arith))

pub overflow_add-self : goal.overflow_add-self
overflow_add-self c =
    let x = line (goal.at.overflow_add-self c).After-count_rest in
    omega (arith, x.rows, c.requires.rows_few)

pub end_row-requires : goal.end_row-requires
end_row-requires c =
    let x = line (goal.at.end_row-requires c).After-count_rest in
    let under = under-row 10 c.args.row.now c.requires.narrow in
    record {
      few = rw (lined-stats _ _ _ _ x (omega arith)) (cells-ends _ _ _ (below_more _ _ _ (omega (arith, c.requires.rows_few)) c.requires.few.stats));
      arrows_few = omega (arith, lined-arrows _ _ _ _ x (omega arith), under);
      heads_few = omega (arith, lined-heads _ _ _ _ x (omega arith), under);
    }

pub returns : goal.returns
returns c =
    let row = c.args.row.now in
    let x = line (goal.at.returns c).After-count_rest in
    λ L done cur w v y. rw (x.rows, x.before)
    (counted-row L _ done cur y row w v _ _ _
    (row-ended _ _ _ (row_sum row) (lined-stats _ _ _ _ x (omega arith)) _ (omega (arith, lined-arrows _ _ _ _ x (omega arith))) _ _
    (omega (arith, lined-heads _ _ _ _ x (omega arith))) (omega (arith, lined-tails _ _ _ _ x (omega arith))) c.end_row.ensures)
    (λ L rows wide narrow counts. passed-end _ _ _ _ x.passed (omega arith) L rows wide narrow counts)
    (x.free y.free) x.passed.size)
