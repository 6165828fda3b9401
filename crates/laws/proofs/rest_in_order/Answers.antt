use Rattle.definitions.proofs.SmBlocks.{least-refused}
use Rattle.files.proofs.Rest.{rest-answered}
use Rattle.files.proofs.RestInOrder.{rest-in_order}
use Rattle.laws.proofs.rest_in_order.Goals as goal

pub returns : goal.returns
returns c = rest-in_order rest-answered least-refused
