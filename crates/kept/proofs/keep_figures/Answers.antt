-- `kept::keep_figures` meets its contract, by what is kept of the measures.
use mathlib.Core.Path.{◌∙◌}
use native.Mathlib.Omega.{arith}
use lib.ListN.{length}
use Rattle.kept_pass.proofs.Answering.{all_room, all-text, all-densities, all-recount, all-tally, none-off}
use Rattle.kept.proofs.Answering.{all-figures}
use Rattle.kept.proofs.keep_figures.Goals as goal

pub corrected_stats-stats-requires : goal.corrected_stats-stats-requires
corrected_stats-stats-requires c =
    all-recount _ _ _ _ _ c.keep_chart-kept.ensures c.args.work.now (omega (arith, c.args.lanes.within.0)) c.requires.text_length c.requires.work_room

pub zero_past-requires-2-clause-in_bounds : goal.zero_past-requires-2-clause-in_bounds
zero_past-requires-2-clause-in_bounds c = all_room _ _ _ _ _ c.keep_chart-kept.ensures

pub returns : goal.returns
returns c =
    let k = c.keep_chart-kept in
    let x = k.ensures in
    let r = c.corrected_stats-stats.ensures in
    record {
      value = all-figures _ _ _ _ _ x (omega (arith, c.requires.text_room, k.auto.text)) (all-tally _ _ _ _ _ x (r.value _ x.phantoms x.stats));
      text_after = c.zero_past.ensures ∙ all-text _ _ _ _ _ x (length c.args.text.now) k.auto.text c.requires.text_room;
      densities_after = c.zero_past-2.ensures ∙ all-densities _ _ _ _ _ x (length c.args.densities.now) k.auto.densities;
      work_after = r.work_after ∙ none-off (length c.args.work.now);
    }
