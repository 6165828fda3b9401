use Rattle.beats.proofs.Texts.{beats-exact}
use Rattle.laws.proofs.beats_exact.Goals as goal

pub returns : goal.returns
returns c = beats-exact
