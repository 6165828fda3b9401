-- `dropped_list::Listing::list_cell` meets its contract.
use mathlib.Core.Path.{sym, ◌∙◌}
use native.Mathlib.Omega.{arith}
use Rattle.dropped_list.proofs.Cells.{cell-head, cell-other}
use Rattle.dropped_list.proofs.Listing.list_cell.Goals as goal

pub returns-then-is_head : goal.returns-then-is_head
returns-then-is_head c =
    record { listed = cell-head _ _ _ _ _ (search arith) c.requires.column_narrow _ _ (sym c.is_head.ensures ∙ c.if-is_head.true) (rw c.decide.ensures at c.put_head.ensures.listed) }

pub returns-else-is_head : goal.returns-else-is_head
returns-else-is_head c =
    record { listed = rw c.decide.ensures (cell-other _ _ _ _ _ (search arith) c.requires.column_narrow (sym c.is_head.ensures ∙ c.if-is_head.false)) }
