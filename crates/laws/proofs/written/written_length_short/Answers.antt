use Rattle.definitions.proofs.Written.AsAsked.{written-length-short}
use Rattle.laws.proofs.written.written_length_short.Goals as goal

pub returns : goal.returns
returns c = written-length-short
