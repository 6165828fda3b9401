use Rattle.beats.proofs.Texts.{beats-near}
use Rattle.laws.proofs.beats_near.Goals as goal

pub returns : goal.returns
returns c = beats-near
