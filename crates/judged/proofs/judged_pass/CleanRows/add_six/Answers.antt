-- `judged_pass::CleanRows::add_six` meets its contract: one cell after the other.
use native.Mathlib.Omega.{arith}
use Rattle.judged.specs.JudgedPass.{PassingOn}
use Rattle.judged.proofs.Cells.{ended-at, ends-at}
use Rattle.judged.proofs.judged_pass.CleanRows.add_six.Goals.{In_ok-add_cell_at-6}
use Rattle.judged.proofs.judged_pass.CleanRows.add_six.Goals as goal

-- six cells have passed
six : (c : In_ok-add_cell_at-6) → PassingOn c.args.row.now 0 6 c.args.self.now c.add_cell_at-6.new.self
six c = λ t x. c.in_ok-add_cell_at-6.ensures.passed t (c.in_ok-add_cell_at-5.ensures.passed t (c.in_ok-add_cell_at-4.ensures.passed t (c.in_ok-add_cell_at-3.ensures.passed t (c.in_ok-add_cell_at-2.ensures.passed t (c.in_ok-add_cell_at.ensures.passed t x)))))

pub end_row-requires : goal.end_row-requires
end_row-requires c =
    ended-at _ 0 _ _ _ _ 6 _ c.requires.six (omega (arith, c.requires.six)) (six (goal.at.end_row-requires c).In_ok-add_cell_at-6) c.requires.begun

pub returns-clause-ended : goal.returns-clause-ended
returns-clause-ended c =
    ends-at _ 0 _ _ _ _ 6 _ _ c.requires.six (six (goal.at.returns-clause-ended c).In_ok-add_cell_at-6) (c.end_row.ensures _ (omega (arith, c.requires.six)))
