-- `presses::reach` meets its contract.
use Rattle.std.proofs.Common.{rules, sym, ap, ◌∙◌}
use Rattle.presses.specs.Reached.{past, met}
use Rattle.presses.proofs.Records.{left-over, past-record, at-record, met-record}
use Rattle.presses.proofs.reach.Goals as goal

pub loop-k-preserved : goal.loop-k-preserved
loop-k-preserved c =
    c.loop-k.invariant ∙ past-record c.requires c.as_chunks.ensures.front _ c.loop-k-test.true c.args.press _ c.press_on-there.ensures (sym c.stands_before.ensures ∙ search rules)

pub returns-clause-place : goal.returns-clause-place
returns-clause-place c = left-over c.requires c.as_chunks.ensures.front _ c.loop-k-test.false ∙ sym (c.loop-k.invariant ∙ ap (past c.args.press) (left-over c.requires c.as_chunks.ensures.front _ c.loop-k-test.false))

pub returns-clause-noted : goal.returns-clause-noted
returns-clause-noted c = sym (ap (met c.args.press) (c.loop-k.invariant ∙ ap (past c.args.press) (left-over c.requires c.as_chunks.ensures.front _ c.loop-k-test.false)))

pub returns-then-not-stands_before-clause-place : goal.returns-then-not-stands_before-clause-place
returns-then-not-stands_before-clause-place c =
    sym (c.loop-k.invariant ∙ at-record c.requires c.as_chunks.ensures.front _ c.loop-k-test.true c.args.press _ c.press_on-there.ensures (sym c.stands_before.ensures ∙ search rules))

pub returns-then-not-stands_before-clause-noted : goal.returns-then-not-stands_before-clause-noted
returns-then-not-stands_before-clause-noted c =
    c.is_met.ensures
    ∙ sym
    (ap (met c.args.press)
    (c.loop-k.invariant ∙ at-record c.requires c.as_chunks.ensures.front _ c.loop-k-test.true c.args.press _ c.press_on-there.ensures (sym c.stands_before.ensures ∙ search rules))
    ∙ met-record c.requires c.as_chunks.ensures.front _ c.loop-k-test.true c.args.press _ c.press_on-there.ensures _ c.is_played.ensures)
