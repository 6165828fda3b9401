-- `measure_tally::Counting::count_row` meets its contract: the row has the mask that was answered.
use Rattle.taps.proofs.Masks.{below-at, fits-table}
use Rattle.taps.proofs.Free.{free-told}
use Rattle.measure_tally.proofs.Counting.count_row.Goals as goal

pub count_taps-requires-clause-mask_known : goal.count_taps-requires-clause-mask_known
count_taps-requires-clause-mask_known c =
    fits-table c.args.table.now _ (below-at _ _ _ c.requires.wide (free-told c.free_taps.ensures c.in-Mask.is).mask)

pub returns-in-Mask : goal.returns-in-Mask
returns-in-Mask c = c.count_taps.ensures _ (free-told c.free_taps.ensures c.in-Mask.is)
