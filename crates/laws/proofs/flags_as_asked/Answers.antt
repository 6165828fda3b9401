use Rattle.definitions.proofs.FlagsAsked.{flags-as-asked}
use Rattle.laws.proofs.flags_as_asked.Goals as goal

pub returns : goal.returns
returns c = flags-as-asked
