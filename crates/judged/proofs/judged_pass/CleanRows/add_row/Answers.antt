-- `judged_pass::CleanRows::add_row` meets its contract: by its mask where it has a free one, else cell by cell.
use mathlib.Core.Path.{sym}
use borrow.Author.Rules.{rules}
use Rattle.taps.proofs.Free.{free-told}
use Rattle.taps.proofs.Masks.{below-at, fits-table}
use Rattle.judged.proofs.Rows.{free-whole}
use Rattle.judged.proofs.judged_pass.CleanRows.add_row.Goals as goal

pub add_taps-requires : goal.add_taps-requires
add_taps-requires c = let below = fits-table c.args.table.now _ (below-at _ _ _ (sym c.requires.wide) (free-told c.free_taps.ensures c.in-Mask.is).mask) in search rules

pub returns-in-Mask-clause-clean : goal.returns-in-Mask-clause-clean
returns-in-Mask-clause-clean c = free-whole c.args.self.now _ _ c.requires.ready (free-told c.free_taps.ensures c.in-Mask.is)

pub returns-in-Mask-clause-passed : goal.returns-in-Mask-clause-passed
returns-in-Mask-clause-passed c = c.add_taps.ensures _ (free-told c.free_taps.ensures c.in-Mask.is)

pub add_cells-requires-clause-gaps : goal.add_cells-requires-clause-gaps
add_cells-requires-clause-gaps c = rw (← c.requires.wide) c.args.table.now.lanes.gaps
