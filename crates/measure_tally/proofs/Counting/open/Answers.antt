-- `measure_tally::Counting::open` meets its contract: the column has its bit.
use mathlib.Core.Path.{refl}
use mathlib.Core.Bool.{true≢false}
use Rattle.measure_tally.proofs.Cells.{free-put}
use Rattle.measure_tally.proofs.Counting.open.Goals as goal

pub returns : goal.returns
returns c = record {
  phantoms = c.open.ensures;
  stats = refl;
  rows = refl;
  before = refl;
  free = λ f. rw c.open.ensures (free-put _ _ _ _ f _ _ c.with_column-self.ensures (λ e. absurd (true≢false e)));
}
