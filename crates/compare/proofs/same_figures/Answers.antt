-- `compare::same_figures` meets its contract: 32 figures, the same as the answer's. Assumes nothing.
use Rattle.std.proofs.Common.{arith, ◌∙◌}
use Rattle.compare.proofs.Comparing.{figures-other, figures-by}
use Rattle.compare.proofs.Reading.{longs-length}
use Rattle.compare.proofs.same_figures.Goals as goal

pub returns-then-want-eq32 : goal.returns-then-want-eq32
returns-then-want-eq32 c = c.same_longs.ensures ∙ figures-by _ _ (omega arith) (omega (arith, longs-length c.args.want.now))

pub returns-else-want-eq32 : goal.returns-else-want-eq32
returns-else-want-eq32 c = figures-other _ _ _ c.if-want-eq32.false (longs-length _)
