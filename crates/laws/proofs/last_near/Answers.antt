use Rattle.beats.proofs.Texts.{last-near}
use Rattle.laws.proofs.last_near.Goals as goal

pub returns : goal.returns
returns c = last-near
