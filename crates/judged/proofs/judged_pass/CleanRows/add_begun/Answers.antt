-- `judged_pass::CleanRows::add_begun` meets its contract: one cell after the other.
use Rattle.judged.specs.JudgedPass.{PassingOn}
use Rattle.judged.proofs.Cells.{begun-on, ended-at, ends-at, then-ends}
use Rattle.judged.proofs.judged_pass.CleanRows.add_begun.Goals.{In_ok-add_cell_at-4, In_ok-add_cell_at-5}
use Rattle.judged.proofs.judged_pass.CleanRows.add_begun.Goals as goal

-- four cells have passed, and five
four : (c : In_ok-add_cell_at-4) → PassingOn c.args.row.now 0 4 c.args.self.now c.add_cell_at-4.new.self
four c = λ t x. c.in_ok-add_cell_at-4.ensures.passed t (c.in_ok-add_cell_at-3.ensures.passed t (c.in_ok-add_cell_at-2.ensures.passed t (c.in_ok-add_cell_at.ensures.passed t x)))

five : (c : In_ok-add_cell_at-5) → PassingOn c.args.row.now 0 5 c.args.self.now c.add_cell_at-5.new.self
five c = λ t x. c.in_ok-add_cell_at-5.ensures.passed t (c.in_ok-add_cell_at-4.ensures.passed t (c.in_ok-add_cell_at-3.ensures.passed t (c.in_ok-add_cell_at-2.ensures.passed t (c.in_ok-add_cell_at.ensures.passed t x))))

pub end_row-requires : goal.end_row-requires
end_row-requires c =
    ended-at _ 0 _ _ _ _ 4 _ c.if-row-eq4.true c.requires.narrow (four (goal.at.end_row-requires c).In_ok-add_cell_at-4) c.requires.begun

pub returns-then-row-eq4-clause-ended : goal.returns-then-row-eq4-clause-ended
returns-then-row-eq4-clause-ended c =
    ends-at _ 0 _ _ _ _ 4 _ _ c.if-row-eq4.true (four (goal.at.returns-then-row-eq4-clause-ended c).In_ok-add_cell_at-4) (c.end_row.ensures _ c.requires.narrow)

pub end_row-requires-then-row-eq5 : goal.end_row-requires-then-row-eq5
end_row-requires-then-row-eq5 c =
    ended-at _ 0 _ _ _ _ 5 _ c.if-row-eq5.true c.requires.narrow (five (goal.at.end_row-requires-then-row-eq5 c).In_ok-add_cell_at-5) c.requires.begun

pub returns-then-row-eq5-clause-ended : goal.returns-then-row-eq5-clause-ended
returns-then-row-eq5-clause-ended c =
    ends-at _ 0 _ _ _ _ 5 _ _ c.if-row-eq5.true (five (goal.at.returns-then-row-eq5-clause-ended c).In_ok-add_cell_at-5) (c.end_row-then-row-eq5.ensures _ c.requires.narrow)

pub add_rest-requires-clause-begun : goal.add_rest-requires-clause-begun
add_rest-requires-clause-begun c = begun-on _ 0 _ _ _ _ 5 _ (five (goal.at.add_rest-requires-clause-begun c).In_ok-add_cell_at-5) c.requires.begun

pub returns-clause-ended : goal.returns-clause-ended
returns-clause-ended c = then-ends _ 0 _ _ _ _ 5 _ _ _ (five (goal.at.returns-clause-ended c).In_ok-add_cell_at-5) c.add_rest.ensures.ended
