-- `holds::Tracker::pop` meets its contract: with a head open, and with none.
use mathlib.Core.Path.{refl}
use native.Mathlib.Omega.{arith}
use Rattle.holds.proofs.Stacks.{busy-closed, step-closes, step-none}
use Rattle.holds.proofs.Tracker.pop.Goals as goal

pub returns-then-depth-eq0 : goal.returns-then-depth-eq0
returns-then-depth-eq0 c = λ row. step-none c.requires row c.if-depth-eq0.true

pub returns : goal.returns
returns c =
    λ row.
    step-closes c.requires _ row _ (busy-closed c.requires _ (omega (arith, c.if-depth-eq0.false)) c.busy_after-self.ensures.last c.busy_after-self.ensures.more) (omega (arith, c.if-depth-eq0.false)) refl
