-- `measure_tally::Counting::count_digit` meets its contract: what each digit does to its column, and the tally with the cell.
use native.Mathlib.Omega.{arith}
use mathlib.Core.Path.{◌≡◌}
use Rattle.definitions.specs.Cells.{cell_of}
use Rattle.cells.proofs.Letters.{empty-digit}
use Rattle.measure_tally.proofs.Cells.{cell-counted, cell-empty}
use Rattle.measure_tally.proofs.Counting.count_digit.Goals as goal

pub returns-in-49 : goal.returns-in-49
unfolding cell_of
returns-in-49 c = cell-counted _ _ _ _ _ _ _ (rw c.in-49.is) c.block.ensures c.count.ensures

pub returns-in-50 : goal.returns-in-50
unfolding cell_of
returns-in-50 c = cell-counted _ _ _ _ _ _ _ (rw c.in-50.is) c.open.ensures c.count-in-50.ensures

pub returns-in_default : goal.returns-in_default
returns-in_default c = cell-empty _ _ _ _ (empty-digit _ c.if-b-lt51.true (λ e. omega (arith, c.in_default)) (λ e. omega (arith, c.in_default)))

pub returns-then-b-eq51 : goal.returns-then-b-eq51
unfolding cell_of
returns-then-b-eq51 c = cell-counted _ _ _ _ _ _ _ (rw c.if-b-eq51.true) c.close.ensures c.count-then-b-eq51.ensures

pub returns-else-b-eq51 : goal.returns-else-b-eq51
unfolding cell_of
returns-else-b-eq51 c =
    let four : c.args.b ≡ 52 = omega (arith, c.requires.digit, c.if-b-lt51.false, c.if-b-eq51.false) in
    cell-counted _ _ _ _ _ _ _ (rw four) c.open-else-b-eq51.ensures c.count-else-b-eq51.ensures
