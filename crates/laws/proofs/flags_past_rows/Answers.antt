use Rattle.definitions.proofs.Consequences.Flags.{flags-past_rows}
use Rattle.definitions.proofs.FlagsAsked.{flags-as-asked}
use Rattle.laws.proofs.flags_past_rows.Goals as goal

pub returns : goal.returns
returns c = flags-past_rows flags-as-asked
