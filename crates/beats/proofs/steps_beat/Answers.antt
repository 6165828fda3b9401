-- `beats::steps_beat` meets its contract: the product of two fractions is rounded once.
use Rattle.std.proofs.Common.{◌^◌, arith, lit<}
use lib.Ieee.{binary32}
use Rattle.beats.proofs.Values.{of-whole, mul_at}
use Rattle.beats.proofs.steps_beat.Goals as goal

pub returns : goal.returns
returns c s v =
    mul_at binary32 _ c.args.step c.args.k 1 s (2 ^ 43) (omega arith) (lit< tt) (of-whole binary32 c.args.k (omega arith)) v
