use Rattle.definitions.proofs.Consequences.Written.{unedited-answered}
use Rattle.definitions.proofs.WriterMakes.{writer-makes}
use Rattle.definitions.proofs.Written.AsAsked.{written-length-short}
use Rattle.definitions.proofs.Written.Passes.{read-notes-pass}
use Rattle.laws.proofs.written.unedited_answered.Goals as goal

pub returns : goal.returns
returns c = unedited-answered writer-makes written-length-short read-notes-pass
