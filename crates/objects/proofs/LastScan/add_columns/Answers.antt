-- `objects::LastScan::add_columns` meets its contract: four columns, four more where there are eight, and the rest.
use Prim.Native.Nat.{◌+◌, ◌-◌}
use mathlib.Core.Path.{◌≡◌}
use native.Mathlib.Omega.{arith}
use lib.ListN.{length}
use Rattle.objects.proofs.Columns.{columns-low, columns-append}
use Rattle.objects.proofs.LastScan.add_columns.Goals as goal

pub add_rest-requires-clause-depths_low : goal.add_rest-requires-clause-depths_low
add_rest-requires-clause-depths_low c = columns-low c.args.cells.now 0 4 _ _ _ c.add_four.ensures c.requires.depths_low

pub returns-then-cells-lt8 : goal.returns-then-cells-lt8
returns-then-cells-lt8 c =
    let all : 4 + (length c.args.cells.now - 4) ≡ length c.args.cells.now = omega (arith, c.requires.wide) in
    rw all at (columns-append c.args.cells.now 0 4 _ _ _ _ c.add_four.ensures c.add_rest.ensures)

pub add_four-requires-2-clause-depths_low : goal.add_four-requires-2-clause-depths_low
add_four-requires-2-clause-depths_low c = columns-low c.args.cells.now 0 4 _ _ _ c.add_four.ensures c.requires.depths_low

pub add_rest-requires-2-clause-depths_low : goal.add_rest-requires-2-clause-depths_low
add_rest-requires-2-clause-depths_low c =
    columns-low c.args.cells.now 4 4 _ _ _ c.add_four-2.ensures (columns-low c.args.cells.now 0 4 _ _ _ c.add_four.ensures c.requires.depths_low)

pub returns : goal.returns
returns c =
    let all : 8 + (length c.args.cells.now - 8) ≡ length c.args.cells.now = omega (arith, c.if-cells-lt8.false) in
    rw all at (columns-append c.args.cells.now 0 8 _ _ _ _ (columns-append c.args.cells.now 0 4 4 _ _ _ c.add_four.ensures c.add_four-2.ensures) c.add_rest-2.ensures)
