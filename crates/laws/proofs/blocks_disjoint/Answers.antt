use Rattle.definitions.proofs.Consequences.Blocks.{blocks-disjoint}
use Rattle.definitions.proofs.SmBlocks.{blocks-apart}
use Rattle.laws.proofs.blocks_disjoint.Goals as goal

pub returns : goal.returns
returns c = blocks-disjoint blocks-apart
