-- `holds::Tracker::clear` meets its contract.
use Rattle.holds.proofs.Stacks.{step-blocks}
use Rattle.holds.proofs.Tracker.clear.Goals as goal

pub returns : goal.returns
returns c = λ row. step-blocks c.requires _ row c.without_column-self.ensures
