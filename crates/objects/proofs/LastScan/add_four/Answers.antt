-- `objects::LastScan::add_four` meets its contract: each cell adds at most 1 to a depth.
use native.Mathlib.Omega.{arith}
use Rattle.objects.proofs.Scan.{low-more}
use Rattle.objects.proofs.Columns.{column-low}
use Rattle.objects.proofs.LastScan.add_four.Goals as goal

pub add_column-requires-4-clause-depths_low : goal.add_column-requires-4-clause-depths_low
add_column-requires-4-clause-depths_low c =
    low-more _ _ _ (omega arith)
    (column-low c.args.cells.now _ _ _ _ c.add_column-3.ensures (column-low c.args.cells.now _ _ _ _ c.add_column-2.ensures (column-low c.args.cells.now _ _ _ _ c.add_column.ensures c.requires.depths_low)))
