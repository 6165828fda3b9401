use Rattle.definitions.proofs.SmBlocks.{blocks-apart}
use Rattle.laws.proofs.blocks_apart.Goals as goal

pub returns : goal.returns
returns c = blocks-apart
