-- `row_tally::count_taps` meets its contract: the mask's counts are the sum of every row that has this mask.
use mathlib.Core.Path.{sym, ap, ◌∙◌}
use Rattle.definitions.specs.Tally.{tally_with_row}
use Rattle.taps.proofs.Masks.{masks-few}
use Rattle.taps.proofs.Sums.{tap-line-sum}
use Rattle.row_tally.proofs.Taps.{mask_under, no-taps-counted}
use Rattle.row_tally.proofs.count_taps.Goals as goal

pub add_row_into-requires : goal.add_row_into-requires
add_row_into-requires c = record { few = c.requires.few; sum_few = rw c.sum.ensures (mask_under _ (masks-few _ _ c.requires.mask_known)) }

pub returns-then-mask-eq0 : goal.returns-then-mask-eq0
returns-then-mask-eq0 c row e = no-taps-counted row _ e c.if-mask-eq0.true _

pub returns : goal.returns
returns c row e = c.add_row_into.ensures ∙ ap (tally_with_row _) (c.sum.ensures ∙ sym (tap-line-sum row _ e))
