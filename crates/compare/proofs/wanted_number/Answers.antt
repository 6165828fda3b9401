-- `compare::wanted_number` meets its contract. Assumes nothing.
use Rattle.std.proofs.Common.{arith, sym, ◌∙◌}
use Rattle.std.proofs.lemmas.List.{get_or_past}
use Rattle.compare.specs.Agreement.{numbers}
use Rattle.compare.proofs.Reading.{number-get, numbers-length}
use Rattle.compare.proofs.wanted_number.Goals as goal

pub returns-then-i-want : goal.returns-then-i-want
returns-then-i-want c = c.half_at.ensures.value ∙ sym (number-get _ _ c.if-i-want.true)

pub returns-else-i-want : goal.returns-else-i-want
returns-else-i-want c = sym (get_or_past (numbers c.args.want.now) _ 0 (omega (arith, numbers-length c.args.want.now)))
