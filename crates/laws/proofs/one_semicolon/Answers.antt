use Rattle.definitions.proofs.Consequences.Blocks.{one-semicolon}
use Rattle.definitions.proofs.SmBlocks.{semicolon-last}
use Rattle.laws.proofs.one_semicolon.Goals as goal

pub returns : goal.returns
returns c = one-semicolon semicolon-last
