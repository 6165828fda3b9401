use Rattle.definitions.proofs.Consequences.Blocks.{eleven-says}
use Rattle.definitions.proofs.SmBlocks.{least-refused}
use Rattle.laws.proofs.eleven_says.Goals as goal

pub returns : goal.returns
returns c = eleven-says least-refused
