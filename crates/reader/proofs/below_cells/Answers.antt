-- `reader::below_cells` meets its contract: a newline right after the cells, or one byte further, is the first past them.
use Rattle.std.proofs.Common.{arith, ◌+◌, ap, ◌∙◌}
use Rattle.definitions.specs.Lists.{after}
use Rattle.lines.proofs.Trims.{part-all}
use Rattle.reader.proofs.Plain.{below-once, below-twice, below-both}
use Rattle.reader.proofs.below_cells.Goals as goal

pub returns-then-at_once : goal.returns-then-at_once
returns-then-at_once c =
    let w = c.args.lanes.within in
    rw part-all (below-once c.args.lanes.count c.args.text.now (omega (arith, w.1, c.requires)) c.if-at_once.true)

pub returns-then-past_one : goal.returns-then-past_one
returns-then-past_one c =
    let w = c.args.lanes.within in
    rw part-all (below-twice c.args.lanes.count c.args.text.now (omega (arith, w.1, c.requires)) c.if-at_once.false c.if-past_one.true)

pub returns : goal.returns
returns c =
    let w = c.args.lanes.within in
    c.text_below.ensures ∙ ap (after 10) (part-all c.args.text.now (c.args.lanes.count + 2)) ∙ below-both c.args.lanes.count c.args.text.now (omega (arith, w.1, c.requires)) c.if-at_once.false c.if-past_one.false
