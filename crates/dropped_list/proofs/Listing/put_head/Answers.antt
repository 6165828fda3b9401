-- `dropped_list::Listing::put_head` meets its contract.
use native.Mathlib.Omega.{arith}
use Rattle.dropped_list.proofs.Cells.{head-front}
use Rattle.dropped_list.proofs.Listing.put_head.Goals as goal

pub returns-in-DroppedBy : goal.returns-in-DroppedBy
returns-in-DroppedBy c =
    record {
      listed =
          rw c.in-DroppedBy.is
          (head-front _ _ _ _ c.in-DroppedBy.cause _ _ (omega (arith, c.requires.some_room)) c.requires.list_room
          (rw (c.dropper_number.ensures, c.cause_number.ensures) at c.put_record.ensures));
    }
