-- `slices::zero_past` meets its contract. Assumes nothing.
use Rattle.std.proofs.Common.{arith}
use Rattle.slices.proofs.Zeroed.{zeroed-next}
use Rattle.slices.proofs.zero_past.Goals as goal

pub loop-at-preserved : goal.loop-at-preserved
loop-at-preserved g c = record {
  onwards = omega (arith, c.loop-at.invariant.onwards);
  within = omega (arith, c.loop-at-test.true);
  front = zeroed-next _ _ _ _ _ _ _ _ _ c.loop-at.invariant.onwards (omega arith) c.loop-at.invariant.front c.zero_part.ensures (omega arith);
}
