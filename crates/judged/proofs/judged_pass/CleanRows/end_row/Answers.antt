-- `judged_pass::CleanRows::end_row` meets its contract: what the counts grew by is the row's sum.
use mathlib.Core.Path.{refl}
use native.Mathlib.Nat.{le_trans, le_refl}
use native.Mathlib.Omega.{arith}
use Rattle.judged.proofs.Rows.{active_few}
use Rattle.judged.proofs.Cells.{reached-below, passing-clean, grew, ended-grew, ends-few, row-passed}
use Rattle.judged.proofs.judged_pass.CleanRows.end_row.Goals as goal

pub overflow_sub-row_arrows : goal.overflow_sub-row_arrows
overflow_sub-row_arrows c = omega (arith, (ended-grew c.requires).arrows_then)

pub overflow_add-row_others : goal.overflow_add-row_others
overflow_add-row_others c =
    omega (arith, c.requires.narrow, c.from.ensures, c.from-2.ensures, reached-below _ _ _ (le_refl _) c.requires.begun.reached)

pub overflow_sub-row_others : goal.overflow_sub-row_others
overflow_sub-row_others c = omega (arith, c.from.ensures, c.from-2.ensures, (ended-grew c.requires).others_then)

pub overflow_cast-row_others : goal.overflow_cast-row_others
overflow_cast-row_others c = let g = ended-grew c.requires in omega (arith, c.from.ensures, c.from-2.ensures, g.others_then, g.others_few)

pub end_judged_row-requires-clause-few : goal.end_judged_row-requires-clause-few
end_judged_row-requires-clause-few c = let b = c.requires.begun.reached in ends-few _ _ _ b.passing c.requires.narrow b.few

pub end_judged_row-requires-clause-arrows_few : goal.end_judged_row-requires-clause-arrows_few
end_judged_row-requires-clause-arrows_few c = let g = ended-grew c.requires in omega (arith, g.arrows_then, g.arrows_few)

pub end_judged_row-requires-clause-others_few : goal.end_judged_row-requires-clause-others_few
end_judged_row-requires-clause-others_few c =
    let g = ended-grew c.requires in omega (arith, c.from.ensures, c.from-2.ensures, g.others_then, g.others_few)

pub end_judged_row-requires-clause-held_few : goal.end_judged_row-requires-clause-held_few
end_judged_row-requires-clause-held_few c =
    let b = c.requires.begun in
    rw b.before.held_then (le_trans (active_few _ b.ready) (omega arith))

pub returns : goal.returns
returns c =
    λ row w t r b x.
    let g = grew row t _ x w _ _ _ b in
    record {
      whole = passing-clean row t _ x w;
      passed =
          row-passed row t _ x w _ refl refl refl _ _ (omega (arith, g.arrows_then)) (omega (arith, c.from.ensures, c.from-2.ensures, g.others_then))
          (rw b.held_then at c.end_judged_row.ensures);
    }
