-- `objects::LastScan::add_digit` meets its contract: what each digit does to its column.
use native.Mathlib.Omega.{arith}
use mathlib.Core.Path.{◌≡◌}
use Rattle.definitions.specs.Cells.{cell_of}
use Rattle.definitions.specs.Objects.{object_at}
use Rattle.cells.proofs.Letters.{empty-digit}
use Rattle.objects.proofs.Columns.{done-empty}
use Rattle.objects.proofs.LastScan.add_digit.Goals as goal

pub returns-in-49 : goal.returns-in-49
unfolding object_at cell_of
returns-in-49 c = rw c.in-49.is c.block.ensures

pub returns-in-50 : goal.returns-in-50
unfolding object_at cell_of
returns-in-50 c = rw c.in-50.is c.open.ensures

pub returns-in_default : goal.returns-in_default
returns-in_default c = done-empty _ _ _ (empty-digit _ c.if-b-lt51.true (λ e. omega (arith, c.in_default)) (λ e. omega (arith, c.in_default)))

pub returns-then-b-eq51 : goal.returns-then-b-eq51
unfolding object_at cell_of
returns-then-b-eq51 c = rw c.if-b-eq51.true c.close.ensures

pub returns-else-b-eq51 : goal.returns-else-b-eq51
unfolding object_at cell_of
returns-else-b-eq51 c =
    let four : c.args.b ≡ 52 = omega (arith, c.requires.digit, c.if-b-lt51.false, c.if-b-eq51.false) in
    rw four c.open-else-b-eq51.ensures
