use Rattle.beats.proofs.Texts.{text-beats-stand}
use Rattle.laws.proofs.text_beats_stand.Goals as goal

pub returns : goal.returns
returns c = text-beats-stand
