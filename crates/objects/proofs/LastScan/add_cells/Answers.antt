-- `objects::LastScan::add_cells` meets its contract: all columns are done, and the row is counted.
use native.Mathlib.Omega.{arith}
use lib.ListN.{length}
use Rattle.std.proofs.Common.{rules}
use Rattle.objects.proofs.Columns.{columns-rows, columns-held}
use Rattle.objects.proofs.LastScan.add_cells.Goals as goal

pub overflow_add-self : goal.overflow_add-self
overflow_add-self c = omega (arith, columns-rows c.args.cells.now 0 (length c.args.cells.now) _ _ c.add_columns.ensures, c.requires.rows_few)

pub returns : goal.returns
returns c = λ done cur x. columns-held c.args.cells.now _ _ done cur x (search (rules, c.if-prove.false)) c.requires.narrow c.add_columns.ensures
