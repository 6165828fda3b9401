use Rattle.definitions.specs.DamageExample.{they_differ, head-open, old-parts, new-parts}
use Rattle.definitions.proofs.Damage.Example.{example-stays}
use Rattle.laws.proofs.damage_met.Goals as goal

pub returns : goal.returns
returns c = (they_differ, example-stays, head-open, old-parts, new-parts)
