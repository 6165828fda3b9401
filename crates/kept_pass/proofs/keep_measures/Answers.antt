-- `kept_pass::keep_measures` meets its contract. The loop's invariant: what is counted and stored is of the measures that were read.
use native.Mathlib.Omega.{arith}
use Rattle.measures.proofs.Reading.{next-place}
use Rattle.kept_pass.proofs.Keeping.{keeps-start, keeps-few, keeps-next, kept-all}
use Rattle.kept_pass.proofs.keep_measures.Goals as goal

pub measures-init : goal.measures-init
measures-init c = record { done = _; keeps = keeps-start (c.chart_measures-chart.ensures c.args.text.now) (c.new-counting.ensures _ c.args.table.now.lanes.within.1) }

pub count_rows-requires-clause-rows_few : goal.count_rows-requires-clause-rows_few
count_rows-requires-clause-rows_few c = omega (arith, keeps-few c.measures.invariant.keeps c.in-Some.ensures c.args.table.now.lanes.within.0, c.requires.text_length)

pub bounds-densities-measure : goal.bounds-densities-measure
bounds-densities-measure c = omega (arith, next-place c.measures.invariant.keeps.read c.in-Some.ensures, c.requires.densities_room, c.measures.auto.densities)

pub measures-preserved : goal.measures-preserved
measures-preserved c =
    record {
      done = _;
      keeps = keeps-next c.measures.invariant.keeps c.in-Some.ensures c.count_rows.ensures c.end_measure.ensures
          (omega (arith, next-place c.measures.invariant.keeps.read c.in-Some.ensures, c.requires.densities_room, c.measures.auto.densities)) _ c.density.ensures;
    }

pub returns : goal.returns
returns c = kept-all c.measures.invariant.keeps c.in_default.ensures
