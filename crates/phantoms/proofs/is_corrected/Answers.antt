-- `phantoms::is_corrected` meets its contract, by what the struct has counted.
use mathlib.Core.Path.{sym}
use Rattle.phantoms.proofs.Corrected.{by-counts}
use Rattle.phantoms.proofs.is_corrected.Goals as goal

pub returns : goal.returns
returns c = λ rows k. rw c.is_left_over.ensures (sym (by-counts c.args.p c.args.lanes rows k))
