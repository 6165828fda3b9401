-- How many examples there are, and how much each says.
use mathlib.Core.Path.{refl}
use Rattle.definitions.specs.Examples as texts
use Rattle.definitions.specs.RuleExamples as rules
use Rattle.definitions.specs.TallyExamples as tallies
use Rattle.definitions.specs.RequestExamples as requests
use Rattle.definitions.specs.DroppedExamples as lists
use Rattle.definitions.specs.Consequences.{ExamplesCounted}

pub examples-counted : ExamplesCounted
unfolding ExamplesCounted texts.table rules.table tallies.table requests.table lists.table
examples-counted = (refl, refl, refl, refl, refl)
