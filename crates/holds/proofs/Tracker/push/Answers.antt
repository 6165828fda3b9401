-- `holds::Tracker::push` meets its contract: with room for the head, and with none.
use Rattle.holds.proofs.Stacks.{step-opens, step-full}
use Rattle.holds.proofs.Tracker.push.Goals as goal

pub returns-then-depth-lt-HOLD_STACK_CAP : goal.returns-then-depth-lt-HOLD_STACK_CAP
returns-then-depth-lt-HOLD_STACK_CAP c = step-opens c.requires _ _ c.with_column-self.ensures c.if-depth-lt-HOLD_STACK_CAP.true

pub returns-else-depth-lt-HOLD_STACK_CAP : goal.returns-else-depth-lt-HOLD_STACK_CAP
returns-else-depth-lt-HOLD_STACK_CAP c = step-full c.requires _ c.if-depth-lt-HOLD_STACK_CAP.false
