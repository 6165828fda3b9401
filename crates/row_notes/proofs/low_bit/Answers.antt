-- Each of the 1024 masks of ten columns is as the contract says, which `Masks` tells by lists of values.
use Rattle.row_notes.proofs.Masks.{low-some, low-none}
use Rattle.row_notes.proofs.low_bit.Goals as goal

pub returns-then-mask-eq0 : goal.returns-then-mask-eq0
returns-then-mask-eq0 c = low-none _ c.if-mask-eq0.true

pub returns : goal.returns
returns c = low-some _ c.requires c.if-mask-eq0.false
