use Rattle.definitions.proofs.Damage.Dropped.{dropped-stays}
use Rattle.laws.proofs.dropped_stays.Goals as goal

pub returns : goal.returns
returns c = dropped-stays
