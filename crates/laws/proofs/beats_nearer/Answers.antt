use Rattle.beats.proofs.Texts.{beats-to-spare, beats-nearer}
use Rattle.laws.proofs.beats_nearer.Goals as goal

pub returns : goal.returns
returns c = record { to_spare = beats-to-spare; every_measure = beats-nearer }
