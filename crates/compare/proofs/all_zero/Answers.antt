-- `compare::all_zero` meets its contract: the comparison with no answer. Assumes nothing.
use Rattle.std.proofs.Common.{rules, arith}
use Rattle.compare.proofs.Comparing.{has_by}
use Rattle.compare.proofs.all_zero.Goals as goal

pub returns : goal.returns
returns c = has_by _ _ _ (omega arith) (search rules)
