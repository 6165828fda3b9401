-- `measure_tally::Counting::close` meets its contract: the column has no bit where its depth is 0 now.
use mathlib.Core.Path.{refl, sym, ap, ◌∙◌}
use Rattle.phantoms.specs.Phantoms.{phantom_at}
use Rattle.measure_tally.proofs.Cells.{free-put, free-zero}
use Rattle.measure_tally.proofs.Counting.close.Goals as goal

pub returns-then-self-column-eq0 : goal.returns-then-self-column-eq0
returns-then-self-column-eq0 c = record {
  phantoms = c.close.ensures;
  stats = refl;
  rows = refl;
  before = refl;
  free = λ f.
      rw c.close.ensures
      (free-put _ _ _ _ f _ _ c.without_column-self.ensures
      (λ e. sym (ap (λ p. phantom_at p c.args.column) c.close.ensures) ∙ c.if-self-column-eq0.true));
}

pub returns-else-self-column-eq0 : goal.returns-else-self-column-eq0
returns-else-self-column-eq0 c = record {
  phantoms = c.close.ensures;
  stats = refl;
  rows = refl;
  before = refl;
  free = λ f. rw c.close.ensures (free-zero _ _ _ _ f refl);
}
