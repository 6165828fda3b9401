use Rattle.definitions.proofs.SmBlocks.{semicolon-last}
use Rattle.laws.proofs.semicolon_last.Goals as goal

pub returns : goal.returns
returns c = semicolon-last
