use Rattle.definitions.proofs.Damage.Stays.{damage-stays}
use Rattle.laws.proofs.damage_stays.Goals as goal

pub returns : goal.returns
returns c = damage-stays
