use Rattle.files.proofs.Rest.{rest-answered}
use Rattle.laws.proofs.rest_answered.Goals as goal

pub returns : goal.returns
returns c = rest-answered
