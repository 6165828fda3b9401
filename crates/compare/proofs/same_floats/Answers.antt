-- `compare::same_floats` meets its contract: each place has its bits, and an answer that is too long is refused. Assumes nothing.
use lib.Ieee.{nan}
use Rattle.std.proofs.Common.{rules, arith}
use Rattle.compare.proofs.Reading.{numbers-length, bits-by, bits-long}
use Rattle.compare.proofs.same_floats.Goals as goal

pub returns-then-want-floats : goal.returns-then-want-floats
returns-then-want-floats c = bits-by _ nan _ _ (omega (arith, numbers-length c.args.want.now)) (search rules)

pub returns-else-want-floats : goal.returns-else-want-floats
returns-else-want-floats c = bits-long _ _ _ c.if-want-floats.false (numbers-length _)
