-- `taps::TapTable::entry` meets its contract: the table's rule at this mask.
use Rattle.std.proofs.Common.{◌≡◌, ◌<◌, subst, arith}
use Rattle.taps.specs.Taps.{counts_in, masks, mask_counts}
use Rattle.taps.proofs.Masks.{masks-few}
use Rattle.taps.proofs.Sums.{counts-few}
use Rattle.taps.proofs.table.TapTable.entry.Goals as goal

pub bounds-self-m-then-self : goal.bounds-self-m-then-self
bounds-self-m-then-self c = omega (arith, masks-few _ _ c.requires)

pub bounds-self-m-2 : goal.bounds-self-m-2
bounds-self-m-2 c = rw c.from-m.ensures (subst (λ b. c.args.mask < masks b) c.if-self.false c.requires)

pub overflow_add-result-then-self : goal.overflow_add-result-then-self
overflow_add-result-then-self c =
    let told = subst (λ b. counts_in b c.args.self.now.counts c.args.mask ≡ mask_counts c.args.mask) c.if-self.true (c.args.self.now.rule c.args.mask c.requires) in
    rw c.from-m.ensures (omega (arith, told, counts-few 10 c.args.mask (omega arith) (masks-few _ _ c.requires)))
