use Rattle.definitions.proofs.Damage.Example.{example-last}
use Rattle.laws.proofs.last_beat_stays.Goals as goal

pub returns : goal.returns
returns c = example-last
