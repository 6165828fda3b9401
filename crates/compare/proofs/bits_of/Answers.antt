-- `compare::bits_of` meets its contract: what differs from itself is no number. Assumes nothing.
use mathlib.Core.Path.{sym, ◌∙◌}
use Rattle.compare.proofs.Reading.{bits_none, bits-some, has-bits}
use Rattle.compare.proofs.bits_of.Goals as goal

pub returns-then-x : goal.returns-then-x
returns-then-x c = sym (bits_none _ c.if-x.true)

pub float_to_bits-x : goal.float_to_bits-x
float_to_bits-x c = has-bits _ c.if-x.false

pub returns-else-x : goal.returns-else-x
returns-else-x c = c.from.ensures ∙ sym (bits-some _ c.if-x.false)
