-- `kinds::clear_open` meets its contract: with a head open, and with none.
use Rattle.holds.proofs.Stacks.{step-clear}
use Rattle.paired_tally.proofs.kinds.clear_open.Goals as goal

pub returns-else-tracker-column-ne0 : goal.returns-else-tracker-column-ne0
returns-else-tracker-column-ne0 c = λ row. step-clear c.requires row c.if-tracker-column-ne0.false
