-- `row_tally::add_taps` meets its contract: the mask's counts are the sum of a row of taps.
use mathlib.Core.Path.{ap, sym, ◌∙◌}
use native.Mathlib.Omega.{arith}
use Rattle.definitions.specs.declared.RowSum.{RowSum}
use Rattle.taps.proofs.Masks.{masks-few}
use Rattle.taps.proofs.Sums.{tap-line-sum}
use Rattle.row_tally.specs.Bounds.{Under}
use Rattle.row_tally.specs.Raised.{with_cells}
use Rattle.row_tally.proofs.Taps.{mask_under}
use Rattle.row_tally.proofs.add_taps.Goals.{After-sum-s}
use Rattle.row_tally.proofs.add_taps.Goals as goal

under : (c : After-sum-s) → Under 10 c.sum-s.result
under c = rw c.sum-s.ensures (mask_under _ (masks-few _ _ c.requires.mask_known))

pub add_cells-requires : goal.add_cells-requires
add_cells-requires c = record { few = c.requires.few; sum_few = under (goal.at.add_cells-requires c).After-sum-s }

pub returns-clause-value : goal.returns-clause-value
returns-clause-value c row e =
    let same = c.sum-s.ensures ∙ sym (tap-line-sum row _ e) in
    record {
      stats = c.add_cells.ensures ∙ ap (with_cells c.args.stats.now) same;
      few = ap (λ (s : RowSum). s.arrows) same;
    }

pub returns-clause-arrows_few : goal.returns-clause-arrows_few
returns-clause-arrows_few c = omega (arith, (under (goal.at.returns-clause-arrows_few c).After-sum-s).counts)
