-- `next` of `reader::charts::ChartLines` meets its contract: a row that one look tells is the first mark.
use Rattle.std.proofs.Common.{length, sym, ap, ◌∙◌, rules}
use mathlib.Core.Logic.{inl}
use Rattle.lines.proofs.Trims.{part-all}
use Rattle.reader.proofs.Marks.{marks-near, marks-just, row-long}
use Rattle.reader.proofs.charts.ChartLinesIterator.next.Goals as goal

pub returns-then-text-self-eq10-clause-steps : goal.returns-then-text-self-eq10-clause-steps
returns-then-text-self-eq10-clause-steps c =
    let w = c.self.inside.lanes.within in
    rw part-all (sym c.self.view_is ∙ marks-just _ _ _ w.0 w.1 c.self.invariant (sym c.is_near_row.ensures ∙ c.if-is_near_row.true) c.if-text-self-eq10.true)

pub returns-then-text-self-eq10-clause-goes : goal.returns-then-text-self-eq10-clause-goes
returns-then-text-self-eq10-clause-goes c =
    let w = c.self.inside.lanes.within in
    let shorter = ap length (sym c.self.view_is ∙ marks-just _ _ _ w.0 w.1 c.self.invariant (sym c.is_near_row.ensures ∙ c.if-is_near_row.true) c.if-text-self-eq10.true) in
    rw part-all (search rules)

pub below_cells-self-inside-requires : goal.below_cells-self-inside-requires
below_cells-self-inside-requires c = row-long _ _ (sym c.is_near_row.ensures ∙ c.if-is_near_row.true)

pub returns-then-is_near_row-clause-steps : goal.returns-then-is_near_row-clause-steps
returns-then-is_near_row-clause-steps c =
    let w = c.self.inside.lanes.within in
    sym c.self.view_is ∙ marks-near _ _ _ w.0 w.1 (sym c.is_near_row.ensures ∙ c.if-is_near_row.true) (inl (sym c.below_cells-self-inside.ensures))

pub returns-then-is_near_row-clause-goes : goal.returns-then-is_near_row-clause-goes
returns-then-is_near_row-clause-goes c =
    let w = c.self.inside.lanes.within in
    let shorter = ap length (sym c.self.view_is ∙ marks-near _ _ _ w.0 w.1 (sym c.is_near_row.ensures ∙ c.if-is_near_row.true) (inl (sym c.below_cells-self-inside.ensures))) in
    search rules
