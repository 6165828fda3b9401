-- `PairedTally::add_row` meets its contract: a row of free taps has no head and no tail.
use mathlib.Core.Path.{sym}
use native.Mathlib.Omega.{arith}
use Rattle.taps.proofs.Free.{free-told}
use Rattle.taps.proofs.Masks.{below-at, fits-table}
use Rattle.row_tally.proofs.Bounds.{below_more}
use Rattle.paired_tally.proofs.Bounds.{paired-below}
use Rattle.paired_tally.proofs.FreeRows.{free-counted}
use Rattle.paired_tally.proofs.PairedTally.add_row.Goals as goal

pub add_free-requires : goal.add_free-requires
add_free-requires g c =
    let f = free-told c.free_taps.ensures c.in-Mask.is in
    let x = c.requires.reached in
    record {
      mask_known = fits-table c.args.table.now _ (below-at _ _ _ (sym c.requires.wide) f.mask);
      few = below_more _ _ _ (omega (arith, x.size, c.requires.rows_few)) (paired-below x.paired (omega (arith, c.requires.wide, c.args.table.now.lanes.within.1)));
      entry_room = c.requires.entry_room;
      entry_clear = x.paired.later _ (omega (arith, x.size));
    }

pub returns-in-Mask : goal.returns-in-Mask
returns-in-Mask g c = let f = free-told c.free_taps.ensures c.in-Mask.is in free-counted f (c.add_free.ensures _ f.mask) c.requires.entry_room
