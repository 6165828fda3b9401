use Rattle.definitions.proofs.Written.Exactly.{comes-back-exactly}
use Rattle.laws.proofs.written.comes_back_exactly.Goals as goal

pub returns : goal.returns
returns c = comes-back-exactly
