use Rattle.definitions.proofs.Consequences.Tallies.{same-tallies}
use Rattle.definitions.proofs.OwnRows.{main-kept-agree}
use Rattle.laws.proofs.same_tallies.Goals as goal

pub returns : goal.returns
returns c = same-tallies main-kept-agree
