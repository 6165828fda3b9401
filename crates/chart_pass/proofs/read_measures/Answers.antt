-- `chart_pass::read_measures` meets its contract.
use native.Mathlib.Omega.{arith}
use Rattle.measures.proofs.Reading.{next-place}
use Rattle.kept_pass.proofs.Keeping.{keeps-start, keeps-most, keeps-next, kept-all}
use Rattle.chart_pass.proofs.Charting.{charted-start, charted-few, charted-number, charted-walking, charted-next, all-noted, all-beats}
use Rattle.chart_pass.proofs.read_measures.Goals as goal

pub measures-init : goal.measures-init
measures-init c =
    let w = c.requires.nothing_walked in
    record { done = _; keeps = keeps-start (c.chart_measures-chart.ensures c.args.text.now) (w.counted _ c.args.table.now.lanes.within.1); charted = charted-start w }

pub overflow_cast-measure : goal.overflow_cast-measure
overflow_cast-measure c =
    let k = c.measures.invariant in
    omega (arith, charted-number k.keeps k.charted c.in-Some.ensures c.args.table.now.lanes.within.0 c.requires.text_length)

pub overflow_cast-measure-in-Some : goal.overflow_cast-measure-in-Some
overflow_cast-measure-in-Some c =
    let k = c.measures.invariant in
    omega (arith, charted-few k.keeps k.charted c.in-Some.ensures c.args.table.now.lanes.within.0 c.requires.text_length)

pub append_row_beats-requires : goal.append_row_beats-requires
append_row_beats-requires c =
    let k = c.measures.invariant in
    let n = c.in-Some.ensures in
    let wide = c.args.table.now.lanes.within.0 in
    record {
      beats_room = omega (arith, keeps-most k.keeps n wide, c.requires.beats_room, c.measures.auto.beats);
      rows_few = omega (arith, charted-few k.keeps k.charted n wide c.requires.text_length);
      measures_few = charted-number k.keeps k.charted n wide c.requires.text_length;
    }

pub walk_rows-requires-clause-walking : goal.walk_rows-requires-clause-walking
walk_rows-requires-clause-walking c =
    let k = c.measures.invariant in
    charted-walking k.keeps k.charted c.in-Some.ensures c.args.table.now.lanes.within.0 c.requires.text_length (omega (arith, c.requires.notes_room, c.measures.auto.slots))

pub bounds-densities-measure : goal.bounds-densities-measure
bounds-densities-measure c = omega (arith, next-place c.measures.invariant.keeps.read c.in-Some.ensures, c.requires.densities_room, c.measures.auto.densities)

pub measures-preserved : goal.measures-preserved
measures-preserved c =
    let k = c.measures.invariant in
    let n = c.in-Some.ensures in
    let wide = c.args.table.now.lanes.within.0 in
    let walked = c.walk_rows.ensures in
    let ended = c.end_measure.ensures in
    record {
      done = _;
      keeps = keeps-next k.keeps n walked.counted ended.counted (omega (arith, next-place k.keeps.read n, c.requires.densities_room, c.measures.auto.densities)) _ c.density.ensures;
      charted =
          charted-next k.keeps k.charted n wide c.requires.text_length _ _ _ _ (omega (arith, keeps-most k.keeps n wide, c.requires.beats_room, c.measures.auto.beats)) c.append_row_beats.ensures
          walked.counted walked.noted walked.ten ended.noting_stays ended.columns_stay;
    }

pub returns : goal.returns
returns c =
    let k = c.measures.invariant in
    let n = c.in_default.ensures in
    record { kept = kept-all k.keeps n; noted = all-noted k.keeps k.charted n; beats_after = all-beats k.keeps k.charted n }
