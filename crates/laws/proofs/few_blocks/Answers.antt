use Rattle.definitions.proofs.Consequences.Blocks.{few-blocks}
use Rattle.definitions.proofs.SmBlocks.{blocks-apart}
use Rattle.laws.proofs.few_blocks.Goals as goal

pub returns : goal.returns
returns c = few-blocks blocks-apart
