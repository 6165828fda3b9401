-- `last_beat::scan_at` meets its contract. The loop's invariant: what is held is what counts of the lines that have come.
use mathlib.Core.Path.{◌∙◌}
use native.Mathlib.Omega.{arith}
use Rattle.objects.proofs.Scan.{low-more}
use Rattle.reader.proofs.ChartLoops.{row-wide, holds-start, holds-row, holds-comma, holds-over}
use Rattle.scans.proofs.Looking.{looked-last}
use Rattle.scans.proofs.last_beat.scan_at.Goals as goal

pub loop-line-init : goal.loop-line-init
loop-line-init g c = holds-start (c.into_iter-line-iterator.ensures.into_iter_gives ∙ c.chart_lines-line-items.ensures) c.requires.within.0 c.new-last.ensures

pub add_row-requires : goal.add_row-requires
add_row-requires g c =
    let wide = row-wide c.loop-line.invariant.come c.in-Some.ensures.steps _ c.in-Row.is in
    let x = c.loop-line.invariant in
    record {
      wide = omega (arith, wide, c.requires.within.0);
      narrow = omega (arith, wide);
      rows_few = omega (arith, x.held.rows, x.few.fifth);
      depths_low = low-more _ _ _ (omega (arith, x.few.fifth)) x.held.low;
    }

pub loop-line-preserved-in-Row : goal.loop-line-preserved-in-Row
loop-line-preserved-in-Row g c =
    holds-row c.loop-line.invariant c.in-Some.ensures.steps _ c.in-Row.is c.add_row.ensures

pub loop-line-preserved : goal.loop-line-preserved
loop-line-preserved g c =
    holds-comma c.loop-line.invariant c.in-Some.ensures.steps c.in-Comma.is c.end_measure.ensures.held

pub returns : goal.returns
returns g c =
    let last = looked-last _ _ _ _ c.end_measure-2.ensures.held (holds-over c.loop-line.invariant c.in-None.ensures.steps.0) in
    record { placed = last.0; value = last.1 }
