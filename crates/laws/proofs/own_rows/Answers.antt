use Rattle.definitions.proofs.OwnRows.{own-rows}
use Rattle.laws.proofs.own_rows.Goals as goal

pub returns : goal.returns
returns c = own-rows
