-- `beats::mul_add` meets its contract: each way out is a case of Row.antt. Assumes nothing.
use Rattle.std.proofs.Common.{◌*◌, refl, ◌∙◌, lit≤}
use lib.Ieee.{of_bits}
use Rattle.beats.proofs.Row.{near, even, odd}
use Rattle.beats.proofs.mul_add.Goals as goal

pub returns-then-m-lt4 : goal.returns-then-m-lt4
unfolding of_bits
returns-then-m-lt4 c =
    c.rounded.ensures 43 (lit≤ tt) (refl, refl) ∙ near c.args.m (c.args.r * c.args.s)

pub returns-then-p-eq0 : goal.returns-then-p-eq0
unfolding of_bits
returns-then-p-eq0 c =
    c.rounded-then-p-eq0.ensures 21 (lit≤ tt) (refl, refl) ∙ even c.args.m (c.args.r * c.args.s) c.if-p-eq0.true

pub returns : goal.returns
unfolding of_bits
returns c =
    c.rounded-2.ensures 21 (lit≤ tt) (refl, refl) ∙ odd c.args.m (c.args.r * c.args.s) c.if-m-lt4.false c.if-p-eq0.false
