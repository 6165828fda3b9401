-- `dropped_list::Listing::list_row` meets its contract. The loop's invariant: the cells from `column` on stand in the list, and tell the fates of their
-- columns.
use native.Mathlib.Omega.{arith}
use Rattle.dropped_list.proofs.Cells.{cell-zero}
use Rattle.dropped_list.proofs.Rows.{row-next}
use Rattle.dropped_list.proofs.Listing.list_row.Goals as goal

pub loop-column-preserved-in-48 : goal.loop-column-preserved-in-48
loop-column-preserved-in-48 c = row-next _ _ _ _ _ _ _ _ c.loop-column.invariant (omega (arith, c.loop-column-test.true)) _ _ (rw c.in-48.is (cell-zero _ _ _ _))

pub loop-column-preserved : goal.loop-column-preserved
loop-column-preserved c = row-next _ _ _ _ _ _ _ _ c.loop-column.invariant (omega (arith, c.loop-column-test.true)) _ _ c.list_cell.ensures.listed
