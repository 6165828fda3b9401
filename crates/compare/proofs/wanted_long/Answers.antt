-- `compare::wanted_long` meets its contract. Assumes nothing.
use Rattle.std.proofs.Common.{arith, sym, ◌∙◌}
use Rattle.std.proofs.lemmas.List.{get_or_past}
use Rattle.compare.specs.Agreement.{longs}
use Rattle.compare.proofs.Reading.{long-get, longs-length}
use Rattle.compare.proofs.wanted_long.Goals as goal

pub returns-then-i-want : goal.returns-then-i-want
returns-then-i-want c = c.halves_at.ensures ∙ sym (long-get _ _ c.if-i-want.true)

pub returns-else-i-want : goal.returns-else-i-want
returns-else-i-want c = sym (get_or_past (longs c.args.want.now) _ 0 (omega (arith, longs-length c.args.want.now)))
