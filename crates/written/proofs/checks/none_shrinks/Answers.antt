-- `checks::none_shrinks` meets its contract. The loop's invariant: none of the measures before could be minimised further.
use mathlib.Core.Path.{ap, sym, ◌∙◌}
use mathlib.Core.Bool.{not}
use Rattle.definitions.specs.Written.{notes_in}
use Rattle.written.proofs.Counts.{shrink-start, shrink-found, shrink-next}
use Rattle.written.proofs.checks.none_shrinks.Goals as goal

pub loop-count-init : goal.loop-count-init
loop-count-init c = shrink-start c.args.lanes.count (notes_in c.args.records.now) c.args.counts.now c.new-above.result (c.new-above.ensures (notes_in c.args.records.now))

pub returns-then-next_shrinks : goal.returns-then-next_shrinks
returns-then-next_shrinks c = sym (ap not (shrink-found c.loop-count.invariant c.loop-count-test.true (sym c.next_shrinks.ensures.value ∙ c.if-next_shrinks.true)))

pub loop-count-preserved : goal.loop-count-preserved
loop-count-preserved c = shrink-next c.loop-count.invariant c.loop-count-test.true (sym c.next_shrinks.ensures.value ∙ c.if-next_shrinks.false) _ c.next_shrinks.ensures.standing
