-- `dropped::minimise` meets its contract, by what the measures that were read leave.
use mathlib.Core.Path.{◌∙◌, subst}
use mathlib.Core.List.{[]}
use native.Mathlib.Omega.{arith}
use Rattle.definitions.specs.Figures.{minimised_text}
use Rattle.measures.specs.declared.RowForm.TheVariants.{Lines}
use Rattle.measures.specs.Reading.{Read}
use Rattle.measures.proofs.Reading.{read-on, read-short, all-text, all-number, all-rows, left-less}
use Rattle.dropped.proofs.Answering.{rows-start, rows-next, rows-few}
use Rattle.dropped.proofs.minimise.Goals as goal

pub measures-init : goal.measures-init
measures-init c = rows-start (subst (λ L. Read Lines L c.args.data.now c.chart_measures-chart.result c.args.text.now []) c.known.ensures (c.chart_measures-chart.ensures c.args.text.now))

pub next-requires : goal.next-requires
next-requires c = read-on c.measures.invariant.read (omega (arith, c.requires.text_room, c.measures.auto.text))

pub overflow_cast-rows : goal.overflow_cast-rows
overflow_cast-rows c = let n = rows-next c.measures.invariant c.in-Some.ensures in omega (arith, rows-few c.args.given.within.0 n c.requires.text_length)

pub overflow_add-rows : goal.overflow_add-rows
overflow_add-rows c = let n = rows-next c.measures.invariant c.in-Some.ensures in omega (arith, rows-few c.args.given.within.0 n c.requires.text_length)

pub measures-smaller : goal.measures-smaller
measures-smaller c = left-less c.in-Some.ensures

pub measures-preserved : goal.measures-preserved
measures-preserved c = rows-next c.measures.invariant c.in-Some.ensures

pub returns : goal.returns
unfolding minimised_text
returns c =
    let k = c.measures.invariant in
    let n = c.in_default.ensures in
    let r = n.read Lines c.args.given.count c.args.data.now k.done k.read in
    record { text_is = all-text r n.over; short = read-short r; measures = all-number r n.over; rows = k.rows_are ∙ all-rows r n.over }
