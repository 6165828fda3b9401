use Rattle.definitions.proofs.Consequences.Written.{nothing-else_lost}
use Rattle.definitions.proofs.WriterMakes.{writer-makes}
use Rattle.definitions.proofs.Written.AsAsked.{written-length-short}
use Rattle.definitions.proofs.Written.Exactly.{comes-back-exactly}
use Rattle.definitions.proofs.Written.Passes.{read-notes-pass}
use Rattle.laws.proofs.written.nothing_else_lost.Goals as goal

pub returns : goal.returns
returns c = nothing-else_lost writer-makes written-length-short read-notes-pass comes-back-exactly
