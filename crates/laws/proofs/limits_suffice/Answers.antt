use Rattle.definitions.proofs.Consequences.Records.{limits-suffice}
use Rattle.laws.proofs.limits_suffice.Goals as goal

pub returns : goal.returns
returns c = limits-suffice
