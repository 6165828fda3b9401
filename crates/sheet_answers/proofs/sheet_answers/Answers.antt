-- `sheet_answers::sheet_answers` meets its contract: what the main call answers and leaves, and the judged tally of the minimised text, which stands in
-- the front of the text slice.
use mathlib.Core.Path.{sym}
use native.Mathlib.Omega.{arith}
use lib.Seq.{length-take-le}
use Rattle.sheet_answers.proofs.Gathering.{rows-fewer, minimised-less, front-part, front-short, judged-part, kept-are, figures-are}
use Rattle.sheet_answers.proofs.sheet_answers.Goals as goal

pub slice_bounds-judge_minimised-end : goal.slice_bounds-judge_minimised-end
slice_bounds-judge_minimised-end c =
    omega (arith, front-short _ _ c.chart_figures-chart.ensures.value, c.requires.text_room, c.chart_figures-chart.auto.text)

pub slice_bounds-judge_minimised-end-2 : goal.slice_bounds-judge_minimised-end-2
slice_bounds-judge_minimised-end-2 c = sym (length-take-le _ _ (slice_bounds-judge_minimised-end c))

-- the minimised text has no more rows than the text once its last byte is left out
pub judge_minimised-judged-requires : goal.judge_minimised-judged-requires
judge_minimised-judged-requires c =
    let a = c.chart_figures-chart in
    let less = minimised-less _ _ _ (front-part _ _ a.ensures.value _ a.ensures.text_after) in
    record {
      text_length = omega (arith, less, c.requires.text_length);
      work_room = omega (arith, rows-fewer c.args.lanes.count _ _ less, c.requires.work_room, a.auto.work);
    }

pub returns-clause-value : goal.returns-clause-value
returns-clause-value c =
    let a = c.chart_figures-chart.ensures in
    let front = front-part _ _ a.value _ a.text_after in
    figures-are _ _ a.value (kept-are _ _ a.value) (judged-part _ _ (omega (arith, c.args.lanes.within.0)) front c.judge_minimised-judged.ensures.value)
