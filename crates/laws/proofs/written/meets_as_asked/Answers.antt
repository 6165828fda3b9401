use Rattle.definitions.proofs.Written.AsAsked.{meets-as-asked}
use Rattle.laws.proofs.written.meets_as_asked.Goals as goal

pub returns : goal.returns
returns c = meets-as-asked
