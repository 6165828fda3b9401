-- `compare::same_bytes` meets its contract: each place has its number, and an answer that is too long is refused. Assumes nothing.
use Rattle.std.proofs.Common.{rules, arith, refl}
use Rattle.compare.proofs.Comparing.{has_by, has-long}
use Rattle.compare.proofs.same_bytes.Goals as goal

pub returns-then-want-bytes : goal.returns-then-want-bytes
returns-then-want-bytes c = has_by _ _ _ (omega arith) (search rules)

pub returns-else-want-bytes : goal.returns-else-want-bytes
returns-else-want-bytes c = has-long _ _ _ c.if-want-bytes.false refl
