-- `densities::fill_at` meets its contract: each line that has come takes what is held on as `Filling` says, and at the end one measure is still
-- open, with `steps`.
use Prim.Native.Nat.{◌<◌}
use mathlib.Core.Path.{sym, ap, ◌∙◌}
use native.Mathlib.Omega.{arith}
use lib.ListN.{length}
use Rattle.definitions.specs.Lists.{number_of_bool, padded}
use Rattle.definitions.specs.Figures.{density}
use Rattle.reader.proofs.ChartLoops.{holds-start, holds-row, holds-comma, holds-over}
use Rattle.scans.proofs.Raw.{densities-raw}
use Rattle.scans.proofs.Filling.{Filled, filling_start, filling_row, filling_comma, filling_over, filled_count, filled_slice}
use Rattle.scans.proofs.Steps.{Steps, steps-start, steps-more}
use Rattle.scans.proofs.densities.fill_at.Goals as goal

pub loop-line-init : goal.loop-line-init
loop-line-init g c = holds-start (c.into_iter-line-iterator.ensures.into_iter_gives ∙ c.chart_lines-line-items.ensures) c.requires.within.0 (filling_start density (Steps 0) _ steps-start)

pub loop-line-preserved-in-Row : goal.loop-line-preserved-in-Row
loop-line-preserved-in-Row g c =
    holds-row c.loop-line.invariant c.in-Some.ensures.steps _ c.in-Row.is
    (filling_row density (Steps _) (Steps _) _ _ _ (steps-more _ _ _ (c.from-steps.ensures ∙ ap number_of_bool c.row_has_note.ensures)))

pub loop-line-preserved : goal.loop-line-preserved
loop-line-preserved g c =
    -- the measures so far are few enough for the slice
    let room : c.loop-line.m < length c.loop-line.densities = omega arith in
    holds-comma c.loop-line.invariant c.in-Some.ensures.steps c.in-Comma.is
    (filling_comma density (Steps _) (Steps 0) _ _ _ room (λ cur h. h) steps-start)

pub returns : goal.returns
returns g c =
    let last : Filled density g.row.L c.args.«data».now c.loop-line.m c.loop-line.steps c.loop-line.densities =
    filling_over density (Steps _) _ _ _ _ _ (λ cur h. h)
    (holds-over c.loop-line.invariant c.in-None.ensures.steps.0) in
    let room : c.loop-line.m < length c.loop-line.densities = omega (arith, last.room) in
    let raw = densities-raw g.row.L c.args.«data».now in record {
      value = filled_count density _ _ _ _ _ room last ∙ sym (ap length raw);
      densities_after =
          c.zero_past.ensures
          ∙ filled_slice density _ _ _ _ _ room last _ c.loop-line.auto.densities
          ∙ ap (padded 0 (length c.args.densities.now)) (sym raw);
    }
