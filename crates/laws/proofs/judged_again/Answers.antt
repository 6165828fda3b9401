use Rattle.definitions.proofs.Consequences.Tallies.{judged-again}
use Rattle.definitions.proofs.OwnRows.{own-rows}
use Rattle.laws.proofs.judged_again.Goals as goal

pub returns : goal.returns
returns c = judged-again own-rows
