use Rattle.definitions.proofs.Consequences.Written.{cannot-come_back}
use Rattle.definitions.proofs.Written.Exactly.{comes-back-exactly}
use Rattle.laws.proofs.written.cannot_come_back.Goals as goal

pub returns : goal.returns
returns c = cannot-come_back comes-back-exactly
