use Rattle.definitions.proofs.Written.Reads.{written-reads-back}
use Rattle.laws.proofs.written.written_reads_back.Goals as goal

pub returns : goal.returns
returns c = written-reads-back
