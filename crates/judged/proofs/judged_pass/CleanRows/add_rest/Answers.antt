-- `judged_pass::CleanRows::add_rest` meets its contract: one cell after the other.
use mathlib.Core.Path.{◌≡◌}
use native.Mathlib.Omega.{arith}
use lib.ListN.{length}
use Rattle.judged.specs.JudgedPass.{PassingOn}
use Rattle.judged.proofs.Cells.{reached-on, ended-at, ends-at}
use Rattle.judged.proofs.judged_pass.CleanRows.add_rest.Goals.{In_ok-add_cell_at-3, In_ok-add_cell_at-4, In_ok-add_cell_at-5}
use Rattle.judged.proofs.judged_pass.CleanRows.add_rest.Goals as goal

-- eight cells have passed, nine, and ten
eight : (c : In_ok-add_cell_at-3) → PassingOn c.args.row.now 5 8 c.args.self.now c.add_cell_at-3.new.self
eight c = λ t x. c.in_ok-add_cell_at-3.ensures.passed t (c.in_ok-add_cell_at-2.ensures.passed t (c.in_ok-add_cell_at.ensures.passed t x))

nine : (c : In_ok-add_cell_at-4) → PassingOn c.args.row.now 5 9 c.args.self.now c.add_cell_at-4.new.self
nine c = λ t x. c.in_ok-add_cell_at-4.ensures.passed t (c.in_ok-add_cell_at-3.ensures.passed t (c.in_ok-add_cell_at-2.ensures.passed t (c.in_ok-add_cell_at.ensures.passed t x)))

ten : (c : In_ok-add_cell_at-5) → PassingOn c.args.row.now 5 10 c.args.self.now c.add_cell_at-5.new.self
ten c = λ t x. c.in_ok-add_cell_at-5.ensures.passed t (c.in_ok-add_cell_at-4.ensures.passed t (c.in_ok-add_cell_at-3.ensures.passed t (c.in_ok-add_cell_at-2.ensures.passed t (c.in_ok-add_cell_at.ensures.passed t x))))

long : (c : In_ok-add_cell_at-5) → length c.args.row.now ≡ 10
long c = omega (arith, c.requires.eight, c.requires.narrow, c.requires.no_nine, c.if-row-eq8.false)

pub end_row-requires : goal.end_row-requires
end_row-requires c =
    ended-at _ 5 _ _ _ _ 8 _ c.if-row-eq8.true c.requires.narrow (eight (goal.at.end_row-requires c).In_ok-add_cell_at-3) c.requires.begun

pub returns-then-row-eq8-clause-ended : goal.returns-then-row-eq8-clause-ended
returns-then-row-eq8-clause-ended c =
    ends-at _ 5 _ _ _ _ 8 _ _ c.if-row-eq8.true (eight (goal.at.returns-then-row-eq8-clause-ended c).In_ok-add_cell_at-3) (c.end_row.ensures _ c.requires.narrow)

pub add_cell_at-requires-4-clause-reached : goal.add_cell_at-requires-4-clause-reached
add_cell_at-requires-4-clause-reached c = reached-on _ 5 8 _ _ (eight (goal.at.add_cell_at-requires-4-clause-reached c).In_ok-add_cell_at-3) c.requires.begun.reached

pub add_cell_at-requires-5-clause-reached : goal.add_cell_at-requires-5-clause-reached
add_cell_at-requires-5-clause-reached c = reached-on _ 5 9 _ _ (nine (goal.at.add_cell_at-requires-5-clause-reached c).In_ok-add_cell_at-4) c.requires.begun.reached

pub end_row-requires-2 : goal.end_row-requires-2
end_row-requires-2 c =
    let at_end = (goal.at.end_row-requires-2 c).In_ok-add_cell_at-5 in
    ended-at _ 5 _ _ _ _ 10 _ (long at_end) c.requires.narrow (ten at_end) c.requires.begun

pub returns-clause-ended : goal.returns-clause-ended
returns-clause-ended c =
    let at_end = (goal.at.returns-clause-ended c).In_ok-add_cell_at-5 in
    ends-at _ 5 _ _ _ _ 10 _ _ (long at_end) (ten at_end) (c.end_row-2.ensures _ c.requires.narrow)
