-- `measure_tally::Counting::block` meets its contract: each depth stays.
use mathlib.Core.Path.{refl}
use Rattle.measure_tally.proofs.Cells.{free-zero}
use Rattle.measure_tally.proofs.Counting.block.Goals as goal

pub returns : goal.returns
returns c = record {
  phantoms = c.block.ensures;
  stats = refl;
  rows = refl;
  before = refl;
  free = λ f. rw c.block.ensures (free-zero _ _ _ _ f refl);
}
