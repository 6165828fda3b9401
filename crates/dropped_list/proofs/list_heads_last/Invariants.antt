-- `dropped_list::list_heads_last` meets its contract. The loop's invariant: the rows from number `row` on are listed, and the text's first `at` bytes are left.
use Rattle.dropped_list.proofs.Walk.{Walked}
use Rattle.dropped_list.proofs.list_heads_last.Given as goal

abbrev pub invariant-loop-at : goal.invariant-loop-at
invariant-loop-at l = Walked l.fn.lanes.count l.text l.fn.rows l.initial.list l.at l.row l.listing l.list

abbrev pub decreases-loop-at : goal.decreases-loop-at
decreases-loop-at l = l.at
