-- `stored::long` meets its contract: the number is what the first eight bytes say.
use Rattle.std.proofs.Common.{rules}
use Rattle.stored.specs.Layout.{long_at}
use Rattle.stored.proofs.long.Goals as goal

pub returns-clause-number : goal.returns-clause-number
unfolding long_at
returns-clause-number c = search rules
