-- `spacing::fill_at` meets its contract. At the start of each iteration the spacing of the measures that have ended is stored, and `measure` holds what
-- counts of the open one, which is the last at the end.
use Prim.Native.Nat.{◌<◌}
use mathlib.Core.Path.{sym, ap, ◌∙◌}
use native.Mathlib.Omega.{arith}
use lib.ListN.{length}
use Rattle.definitions.specs.Lists.{number_of_bool, padded}
use Rattle.scans.specs.Spaces.{Spaces}
use Rattle.reader.proofs.ChartLoops.{holds-start, holds-row, holds-comma, holds-over}
use Rattle.scans.proofs.Filling.{Filled, filling_start, filling_row, filling_comma, filling_over, filled_count, filled_slice}
use Rattle.scans.proofs.Spaces.{spaced_in, spacings-raw}
use Rattle.scans.proofs.spacing.fill_at.Goals as goal

pub loop-line-init : goal.loop-line-init
loop-line-init g c = holds-start (c.into_iter-line-iterator.ensures.into_iter_gives ∙ c.chart_lines-line-items.ensures) c.requires.within.0 (filling_start spaced_in (Spaces _) _ c.new-measure.ensures)

pub loop-line-preserved-in-Row : goal.loop-line-preserved-in-Row
loop-line-preserved-in-Row g c =
    holds-row c.loop-line.invariant c.in-Some.ensures.steps _ c.in-Row.is
    (filling_row spaced_in (Spaces _) (Spaces _) _ _ _ c.add_row.ensures)

pub loop-line-preserved : goal.loop-line-preserved
loop-line-preserved g c =
    let room : c.loop-line.m < length c.loop-line.spacing = omega arith in
    holds-comma c.loop-line.invariant c.in-Some.ensures.steps c.in-Comma.is
    (filling_comma spaced_in (Spaces _) (Spaces _) _ _ _ room (λ cur x. c.from.ensures ∙ ap number_of_bool (c.is_spaced.ensures cur x)) c.new-measure-in-Comma.ensures)

pub returns : goal.returns
returns g c =
    let last : Filled spaced_in g.row.L c.args.«data».now c.loop-line.m c.from-2.result c.loop-line.spacing
    = filling_over spaced_in (Spaces _) _ _ _ _ _ (λ cur x. c.from-2.ensures ∙ ap number_of_bool (c.is_spaced-2.ensures cur x))
    (holds-over c.loop-line.invariant c.in-None.ensures.steps.0) in
    let room : c.loop-line.m < length c.loop-line.spacing = omega (arith, last.room) in
    let raw = spacings-raw g.row.L c.args.«data».now in
    record {
      value = filled_count spaced_in _ _ _ _ _ room last ∙ sym (ap length raw);
      spacing_after = c.zero_past.ensures ∙ filled_slice spaced_in _ _ _ _ _ room last _ c.loop-line.auto.spacing ∙ ap (padded 0 (length c.args.spacing.now)) (sym raw);
    }
