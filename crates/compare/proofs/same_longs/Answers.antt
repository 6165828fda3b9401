-- `compare::same_longs` meets its contract: each place has its number, and an answer that is too long is refused. Assumes nothing.
use Rattle.std.proofs.Common.{rules, arith}
use Rattle.compare.proofs.Comparing.{has_by, has-long}
use Rattle.compare.proofs.Reading.{longs-length}
use Rattle.compare.proofs.same_longs.Goals as goal

pub returns-then-want-slice : goal.returns-then-want-slice
returns-then-want-slice c = has_by _ _ _ (omega (arith, longs-length c.args.want.now)) (search rules)

pub returns-else-want-slice : goal.returns-else-want-slice
returns-else-want-slice c = has-long _ _ _ c.if-want-slice.false (longs-length _)
