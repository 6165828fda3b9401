use Rattle.beats.proofs.Texts.{beats-near, beats-to-spare, beats-nearer, beats-exact}
use Rattle.definitions.proofs.Consequences.Beats.{places-near}
use Rattle.laws.proofs.places_near.Goals as goal

pub returns : goal.returns
returns c = places-near beats-near beats-to-spare beats-nearer beats-exact
