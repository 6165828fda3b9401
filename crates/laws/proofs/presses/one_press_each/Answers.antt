use Rattle.definitions.proofs.CleanTrace.{clean-trace}
use Rattle.definitions.proofs.Consequences.Presses.{one-press_each}
use Rattle.laws.proofs.presses.one_press_each.Goals as goal

pub returns : goal.returns
returns c = one-press_each clean-trace
