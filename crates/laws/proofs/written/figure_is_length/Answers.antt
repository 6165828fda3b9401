use Rattle.definitions.proofs.Consequences.Written.{figure-is_length}
use Rattle.definitions.proofs.Written.Reads.{written-reads-back}
use Rattle.laws.proofs.written.figure_is_length.Goals as goal

pub returns : goal.returns
returns c = figure-is_length written-reads-back
