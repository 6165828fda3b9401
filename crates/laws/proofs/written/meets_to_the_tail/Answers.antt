use Rattle.definitions.proofs.Consequences.Written.{meets-to_the_tail}
use Rattle.definitions.proofs.Written.AsAsked.{meets-as-asked}
use Rattle.laws.proofs.written.meets_to_the_tail.Goals as goal

pub returns : goal.returns
returns c = meets-to_the_tail meets-as-asked
