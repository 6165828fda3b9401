-- `taps::with_column` meets its contract.
use Rattle.taps.proofs.Marks.{marked-with, shifted}
use Rattle.taps.proofs.with_column.Goals as goal

pub returns : goal.returns
returns c = marked-with _ _ c.requires _ (shifted _ c.requires)
