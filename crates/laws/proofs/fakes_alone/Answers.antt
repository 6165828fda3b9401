use Rattle.definitions.proofs.Consequences.Flags.{fakes-alone}
use Rattle.definitions.proofs.FlagsAsked.{flags-as-asked}
use Rattle.laws.proofs.fakes_alone.Goals as goal

pub returns : goal.returns
returns c = fakes-alone flags-as-asked
