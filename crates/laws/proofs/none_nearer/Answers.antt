use Rattle.beats.proofs.Texts.{last-near, text-last-near}
use Rattle.definitions.proofs.Consequences.Beats.{last-places, last-of_texts}
use Rattle.laws.proofs.none_nearer.Goals as goal

pub returns : goal.returns
returns c = record { places = last-places last-near; texts = last-of_texts text-last-near }
