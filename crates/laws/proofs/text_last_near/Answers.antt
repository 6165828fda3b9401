use Rattle.beats.proofs.Texts.{text-last-near}
use Rattle.laws.proofs.text_last_near.Goals as goal

pub returns : goal.returns
returns c = text-last-near
