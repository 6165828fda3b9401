use Rattle.definitions.proofs.SmBlocks.{data-in-file}
use Rattle.laws.proofs.data_in_file.Goals as goal

pub returns : goal.returns
returns c = data-in-file
