use Rattle.definitions.proofs.WriterMakes.{writer-makes}
use Rattle.laws.proofs.writer_makes.Goals as goal

pub returns : goal.returns
returns c = writer-makes
