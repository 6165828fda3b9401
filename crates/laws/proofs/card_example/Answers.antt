use Rattle.sheet.specs.Card.{card-example}
use Rattle.laws.proofs.card_example.Goals as goal

pub returns : goal.returns
returns c = card-example
