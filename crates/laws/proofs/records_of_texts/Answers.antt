use Rattle.definitions.proofs.Consequences.Records.{records-of_texts}
use Rattle.definitions.proofs.WriterMakes.{writer-makes}
use Rattle.laws.proofs.records_of_texts.Goals as goal

pub returns : goal.returns
returns c = records-of_texts writer-makes
