-- `slices::are_all` meets its contract: where each place has the number, all are it. Assumes nothing.
use Rattle.std.proofs.Common.{arith, sym, ◌∙◌}
use Rattle.std.proofs.lemmas.List.{ext_get_or, get_or-replicate, length-replicate}
use Rattle.slices.proofs.Zeroed.{halves-all}
use Rattle.slices.proofs.are_all.Goals as goal

pub returns : goal.returns
returns g c same =
    ext_get_or c.args.it _ _ (sym (length-replicate _ _))
    (λ i h. halves-all _ _ _ _ (omega arith) (c.loop-i.invariant (c.is_none.ensures same)) i (omega arith) ∙ sym (get_or-replicate _ i _ _ h))
