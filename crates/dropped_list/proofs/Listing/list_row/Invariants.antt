-- `dropped_list::Listing::list_row` meets its contract. The loop's invariant: the cells from `column` on stand in the list, and tell the fates of their
-- columns.
use Rattle.dropped_list.proofs.Rows.{RowListed}
use Rattle.dropped_list.proofs.Listing.list_row.Given as goal

abbrev pub invariant-loop-column : goal.invariant-loop-column
invariant-loop-column l = RowListed l.row l.number l.initial.self l.initial.list l.column l.self l.list

abbrev pub decreases-loop-column : goal.decreases-loop-column
decreases-loop-column l = l.column
