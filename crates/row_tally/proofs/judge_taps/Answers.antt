-- `row_tally::judge_taps` meets its contract: the mask's counts are the sum of a row of taps, whose arrows are its only cells.
use mathlib.Core.Path.{refl, ap, ◌∙◌}
use mathlib.Core.Bool.{true, false}
use native.Mathlib.Omega.{arith}
use Rattle.definitions.specs.Judged.{judge_row, sum_of_fakes}
use Rattle.taps.proofs.Masks.{masks-few}
use Rattle.row_tally.specs.Bounds.{Under}
use Rattle.row_tally.proofs.Taps.{mask_under, taps-judged, taps-unjudged, no-taps-judged}
use Rattle.row_tally.proofs.Raised.{cells-ends, judged-row-ended}
use Rattle.row_tally.proofs.judge_taps.Goals.{After-sum-s}
use Rattle.row_tally.proofs.judge_taps.Goals as goal

under : (c : After-sum-s) → Under 10 c.sum-s.result
under c = rw c.sum-s.ensures (mask_under _ (masks-few _ _ c.requires.mask_known))

pub add_cells-requires : goal.add_cells-requires
add_cells-requires c = record { few = c.requires.few; sum_few = under (goal.at.add_cells-requires c).After-sum-s }

pub overflow_add-s : goal.overflow_add-s
overflow_add-s c = omega (arith, under (goal.at.overflow_add-s c).After-sum-s)

pub end_judged_row-requires : goal.end_judged_row-requires
end_judged_row-requires c =
    let u = under (goal.at.end_judged_row-requires c).After-sum-s in
    record {
      few = rw c.add_cells.ensures (cells-ends _ _ _ c.requires.few);
      arrows_few = omega (arith, u);
      others_few = omega (arith, u);
      held_few = c.requires.held_few;
    }

pub count_fakes-requires-else-judged : goal.count_fakes-requires-else-judged
count_fakes-requires-else-judged c = record { few = c.requires.few; fakes_few = omega (arith, under (goal.at.count_fakes-requires-else-judged c).After-sum-s) }

pub returns-then-mask-eq0 : goal.returns-then-mask-eq0
returns-then-mask-eq0 c row e = c.count_fakes.ensures c.args.held ∙ no-taps-judged row _ e c.if-mask-eq0.true _ c.args.judged c.args.held

pub returns-then-judged : goal.returns-then-judged
returns-then-judged c row e =
    rw c.if-judged.true
    (judged-row-ended _ _ _ _ c.add_cells.ensures _ refl true _ _ refl c.end_judged_row.ensures
    ∙ ap (judge_row c.args.stats.now true c.args.held) (c.sum-s.ensures ∙ taps-judged row _ e))

pub returns-else-judged : goal.returns-else-judged
returns-else-judged c row e =
    rw c.if-judged.false
    (c.count_fakes-else-judged.ensures c.args.held
    ∙ ap (judge_row c.args.stats.now false c.args.held) (ap (λ s. sum_of_fakes s.arrows) c.sum-s.ensures ∙ taps-unjudged row _ e))
