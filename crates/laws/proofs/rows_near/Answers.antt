use Rattle.beats.proofs.Texts.{text-beats-stand}
use Rattle.definitions.proofs.Consequences.Beats.{rows-near}
use Rattle.laws.proofs.rows_near.Goals as goal

pub returns : goal.returns
returns c = rows-near text-beats-stand
