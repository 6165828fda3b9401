-- `taps::without_column` meets its contract.
use Rattle.taps.proofs.Marks.{marked-without, shifted}
use Rattle.taps.proofs.without_column.Goals as goal

pub returns : goal.returns
returns c = marked-without _ _ c.requires _ (shifted _ c.requires)
