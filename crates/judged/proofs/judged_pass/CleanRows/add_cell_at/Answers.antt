-- `judged_pass::CleanRows::add_cell_at` meets its contract: the cells before the column have passed, and this one with them or not.
use Prim.Native.Nat.{◌+◌}
use native.Mathlib.Omega.{arith}
use Rattle.definitions.specs.Sizes.{count_bound}
use Rattle.row_tally.proofs.Bounds.{below_more}
use Rattle.judged.proofs.Cells.{reached-below, passing-none, passing-next, none-then, some-then}
use Rattle.judged.proofs.judged_pass.CleanRows.add_cell_at.Goals as goal

pub add_cell-requires-clause-few : goal.add_cell-requires-clause-few
add_cell-requires-clause-few c =
    below_more (count_bound + c.args.column) (count_bound + 9) _ (omega (arith, c.requires.inside, c.requires.narrow))
    (reached-below _ _ _ (omega (arith, c.requires.inside)) c.requires.reached)

pub returns-clause-clean : goal.returns-clause-clean
returns-clause-clean c = λ n t x. passing-none _ _ c.requires.inside c.requires.narrow t _ x (none-then _ _ c.add_cell.ensures.clean n)

pub returns-clause-passed : goal.returns-clause-passed
returns-clause-passed c =
    some-then _ _ c.add_cell.ensures.clean (λ u p t x. passing-next _ _ c.requires.inside c.requires.narrow t _ x _ u p) c.add_cell.ensures.passed
