use Rattle.definitions.proofs.Consequences.Flags.{each-row_judged}
use Rattle.definitions.proofs.FlagsAsked.{flags-as-asked}
use Rattle.laws.proofs.each_row_judged.Goals as goal

pub returns : goal.returns
returns c = each-row_judged flags-as-asked
