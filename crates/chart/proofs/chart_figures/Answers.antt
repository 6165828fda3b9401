-- `chart::chart_figures` meets its contract, by what the pass leaves in the slices and how the call ends.
use mathlib.Core.Path.{ap, sym, ◌∙◌, subst}
use native.Mathlib.Omega.{arith}
use lib.Ieee.{of_bits, of_int}
use lib.ListN.{length}
use Rattle.definitions.specs.Lists.{joined, padded}
use Rattle.definitions.specs.Reduction.{minimised}
use Rattle.definitions.specs.Notes.{notes}
use Rattle.definitions.specs.Records.{records}
use Rattle.kept_pass.proofs.Answering.{all_room, all-text, all-densities, all-recount, all-tally, none-off}
use Rattle.phantoms.specs.Phantoms.{Counts}
use Rattle.chart.proofs.Answering.{rows-most, all-beats, found-48, all-notes, note-count, all-figures}
use Rattle.chart.proofs.chart_figures.Goals as goal

pub read_chart-written-requires-clause-nothing_walked : goal.read_chart-written-requires-clause-nothing_walked
read_chart-written-requires-clause-nothing_walked c =
    let w = c.new-walk.ensures in
    record { counted = w.counted; noted = w.noted; ten = w.ten; row = w.nothing_walked }

pub corrected_stats-stats-requires : goal.corrected_stats-stats-requires
corrected_stats-stats-requires c =
    all-recount _ _ _ _ _ c.read_chart-written.ensures.kept c.args.work.now (omega (arith, c.args.lanes.within.0)) c.requires.text_length c.requires.work_room

pub finish-notes-requires : goal.finish-notes-requires
finish-notes-requires c = rw c.scratch.ensures (record { rows = _; written = c.read_chart-written.ensures.noted.written })

pub zero_past-requires-clause-in_bounds : goal.zero_past-requires-clause-in_bounds
zero_past-requires-clause-in_bounds c =
    omega (arith, rows-most c.read_chart-written.new.walk c.read_chart-written.ensures.kept (omega (arith, c.args.lanes.within.0)), c.requires.beats_room, c.read_chart-written.auto.beats)

pub zero_past-requires-2-clause-in_bounds : goal.zero_past-requires-2-clause-in_bounds
zero_past-requires-2-clause-in_bounds c = omega (arith, c.read_chart-written.ensures.kept.short, c.requires.text_room, c.read_chart-written.auto.text)

pub zero_past-requires-3-clause-in_bounds : goal.zero_past-requires-3-clause-in_bounds
zero_past-requires-3-clause-in_bounds c = all_room _ _ _ _ _ c.read_chart-written.ensures.kept

pub returns : goal.returns
unfolding of_bits of_int
returns c =
    let L = c.args.lanes.count in
    let text = c.args.«data».now in
    let pass = c.read_chart-written in
    let x = pass.ensures in
    let walk = pass.new.walk in
    let counts = subst (Counts L (joined (minimised L text))) (sym c.phantoms.ensures) x.kept.phantoms in
    let tally = all-tally _ _ _ _ _ x.kept (c.corrected_stats-stats.ensures.value _ counts x.kept.stats) in
    let finished = rw c.scratch.ensures at c.finish-notes.ensures in record {
      value = all-figures walk x.kept (omega (arith, c.requires.text_room, pass.auto.text)) tally (note-count walk text x.noted _ _ _ finished) (found-48 walk text x.noted) c.last_beat_bits.ensures c.last_note_row.ensures.value;
      text_after = c.zero_past-2.ensures ∙ all-text _ _ _ _ _ x.kept (length c.args.text.now) pass.auto.text c.requires.text_room;
      densities_after = c.zero_past-3.ensures ∙ all-densities _ _ _ _ _ x.kept (length c.args.densities.now) pass.auto.densities;
      beats_after = c.zero_past.ensures ∙ all-beats walk x.kept (omega (arith, c.args.lanes.within.0)) _ x.beats_after (length c.args.beats.now) pass.auto.beats c.requires.beats_room;
      work_after = c.corrected_stats-stats.ensures.work_after ∙ none-off (length c.args.work.now);
      notes_after = all-notes walk text x.noted _ _ _ finished ∙ ap (λ n. padded 0 n (records (notes L text))) pass.auto.slots;
    }
