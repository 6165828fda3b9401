use Rattle.definitions.proofs.Consequences.Written.{told-by_text}
use Rattle.definitions.proofs.Written.Reads.{written-reads-back}
use Rattle.laws.proofs.written.told_by_text.Goals as goal

pub returns : goal.returns
returns c = told-by_text written-reads-back
