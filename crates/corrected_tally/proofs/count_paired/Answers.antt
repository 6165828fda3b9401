-- `corrected_tally::count_paired` meets its contract. The loop's invariant: the rows that have come are counted.
use mathlib.Core.Path.{refl, sym, ap, ◌∙◌}
use native.Mathlib.Omega.{arith}
use Rattle.reader.proofs.BackLoops.{back-start, back-more, next-inside, next-wide, all-came}
use Rattle.paired_tally.proofs.Reading.{reading-reached, reading-row, reading-counted}
use lib.ListN.{length}
use Rattle.definitions.specs.Tally.{tally}
use Rattle.definitions.specs.Correction.{paired_only}
use Rattle.corrected_tally.proofs.count_paired.Goals as goal

pub loop-cells-init : goal.loop-cells-init
loop-cells-init c =
    back-start _ _ (c.into_iter-cells-iterator.ensures.into_iter_gives ∙ c.back_rows-cells-items.ensures) c.args.lanes.within.0
    (record { size = refl; paired = c.new-counted.ensures _ _ _ _ c.requires.clear })

-- a row's entry stands in the work slice
pub count_row-requires : goal.count_row-requires
count_row-requires c =
    let x = c.loop-cells.invariant.come in
    let wide = next-wide x c.in-Some.ensures.steps in
    record {
      wide = c.for_lanes-table.ensures ∙ sym wide;
      entry_room = omega (arith, c.requires.room.room, c.loop-cells.invariant.held.size, next-inside x c.in-Some.ensures.steps);
      rows_few = omega (arith, c.loop-cells.invariant.held.size, x.few, c.requires.room.short);
      reached = reading-reached _ _ _ _ _ _ _ c.loop-cells.invariant.held _ wide;
    }

pub loop-cells-preserved : goal.loop-cells-preserved
loop-cells-preserved c =
    back-more c.loop-cells.invariant _ c.in-Some.ensures.steps
    (reading-row _ _ _ _ _ _ _ c.loop-cells.invariant.held _ (next-wide c.loop-cells.invariant.come c.in-Some.ensures.steps) _ refl _ _ c.count_row.ensures)

pub end_rows-requires : goal.end_rows-requires
end_rows-requires c =
    let x = c.loop-cells.invariant.come in
    let all = ap length (all-came x c.in-None.ensures.steps.0) in
    record {
      entries_room = omega (arith, c.requires.room.room, c.loop-cells.invariant.held.size, all);
      rows_few = omega (arith, c.loop-cells.invariant.held.size, x.few, c.requires.room.short);
      reached = reading-counted _ _ _ _ _ _ _ c.loop-cells.invariant.held c.args.lanes.within.1;
    }

pub returns : goal.returns
returns c =
    let held = c.loop-cells.invariant.held in
    c.end_rows.ensures _ _ _ held.size c.args.lanes.within.1 held.paired
    ∙ ap (λ rows. tally (paired_only rows)) (sym (all-came c.loop-cells.invariant.come c.in-None.ensures.steps.0))
