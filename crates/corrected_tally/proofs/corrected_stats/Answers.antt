-- `corrected_tally::corrected_stats` meets its contract, by the correction rule.
use mathlib.Core.Path.{ap, sym, ◌∙◌}
use Rattle.definitions.specs.Correction.{tally_with_steps}
use Rattle.corrected_tally.proofs.Zeros.{zeroed-all}
use Rattle.corrected_tally.proofs.Corrected.{corrected-anew, corrected-same}
use Rattle.corrected_tally.proofs.corrected_stats.Goals as goal

pub returns-then-is_corrected : goal.returns-then-is_corrected
returns-then-is_corrected c = record {
  value = λ rows x e. c.with_steps.ensures ∙ ap (tally_with_steps c.args.stats.total_steps) c.recalc_phantom_stats-anew.ensures.value
      ∙ corrected-anew c.args.lanes.count rows _ c.args.stats (sym (c.is_corrected.ensures rows x) ∙ c.if-is_corrected.true) e;
  work_after = c.recalc_phantom_stats-anew.ensures.work_after;
}

pub returns-else-is_corrected : goal.returns-else-is_corrected
returns-else-is_corrected c = record { value = λ rows x e. corrected-same c.args.lanes.count rows _ c.args.stats (sym (c.is_corrected.ensures rows x) ∙ c.if-is_corrected.false) e; work_after = c.zero_past.ensures ∙ zeroed-all c.args.work.now }
