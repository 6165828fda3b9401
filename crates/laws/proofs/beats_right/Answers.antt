use Rattle.beats.specs.Vectors.{results-right}
use Rattle.laws.proofs.beats_right.Goals as goal

pub returns : goal.returns
returns c = results-right
