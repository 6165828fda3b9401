use Rattle.definitions.proofs.Consequences.Blocks.{data-there}
use Rattle.definitions.proofs.SmBlocks.{data-in-file}
use Rattle.laws.proofs.data_there.Goals as goal

pub returns : goal.returns
returns c = data-there data-in-file
