use Rattle.definitions.proofs.Consequences.Flags.{last-zeros}
use Rattle.definitions.proofs.FlagsAsked.{flags-as-asked}
use Rattle.laws.proofs.last_zeros.Goals as goal

pub returns : goal.returns
returns c = last-zeros flags-as-asked
