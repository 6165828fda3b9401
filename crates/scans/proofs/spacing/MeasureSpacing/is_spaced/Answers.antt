-- `spacing::MeasureSpacing::is_spaced` meets its contract: without rows the measure is spaced, and with rows it is where as many have a step as stay.
use Prim.Native.Nat.{◌<◌}
use native.Mathlib.Omega.{arith}
use Rattle.scans.proofs.Spaces.{spaced-none, spaced-told}
use Rattle.scans.proofs.spacing.MeasureSpacing.is_spaced.Goals as goal

pub returns-then-self-eq0 : goal.returns-then-self-eq0
returns-then-self-eq0 c = λ cur x. spaced-none _ cur x c.if-self-eq0.true

pub returns : goal.returns
returns c =
    let some : 0 < c.args.self.now.rows = omega (arith, c.if-self-eq0.false) in
    λ cur x. spaced-told _ cur x some c.requires _ c.min-shift.ensures
