-- `lines::find_rest` meets its contract: what the search of what is left finds is what the search from the first place on finds. Assumes nothing.
use Rattle.std.proofs.Common.{sym, ◌∙◌, arith}
use Rattle.lines.proofs.Search.{found_from, find-hit, find-miss, find-end}
use Rattle.lines.proofs.find_rest.Goals as goal

pub returns-then-slice-i : goal.returns-then-slice-i
returns-then-slice-i c =
    sym (found_from c.args.needle c.args.from _ ∙ c.loop-i.invariant.1 ∙ find-hit _ _ _ c.loop-i-test.true c.if-slice-i.true)

pub loop-i-preserved : goal.loop-i-preserved
loop-i-preserved c = (omega arith, c.loop-i.invariant.1 ∙ find-miss _ _ _ c.loop-i-test.true c.if-slice-i.false)

pub returns : goal.returns
returns c = sym (found_from c.args.needle c.args.from _ ∙ c.loop-i.invariant.1 ∙ find-end _ _ _ c.loop-i-test.false)
