use Rattle.definitions.proofs.Consequences.Tallies.{arrows-add}
use Rattle.definitions.proofs.Directions.{directions-sum}
use Rattle.laws.proofs.arrows_add.Goals as goal

pub returns : goal.returns
returns c = λ L text flags. arrows-add (directions-sum L text flags)
