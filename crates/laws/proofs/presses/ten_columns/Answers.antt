use Rattle.definitions.proofs.Consequences.Presses.{ten-columns}
use Rattle.definitions.proofs.Presses.{columns-counted}
use Rattle.laws.proofs.presses.ten_columns.Goals as goal

pub returns : goal.returns
returns c = ten-columns columns-counted
