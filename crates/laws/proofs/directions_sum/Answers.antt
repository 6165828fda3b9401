use Rattle.definitions.proofs.Directions.{directions-sum}
use Rattle.laws.proofs.directions_sum.Goals as goal

pub returns : goal.returns
returns c = directions-sum
