-- `timing::timing_figures` meets its contract, by the measures that were read.
use mathlib.Core.Path.{refl, ◌∙◌}
use native.Mathlib.Omega.{arith}
use lib.Ieee.{of_bits, of_int}
use lib.ListN.{length}
use Rattle.measures.proofs.Reading.{read-on, read-short, left-less}
use Rattle.timing.proofs.Timed.{timed-start, timed-few, timed-most, timed-number, timed-within, timed-next, all-figures, all-written, all-beats, all-most}
use Rattle.timing.proofs.timing_figures.Goals as goal

pub measures-init : goal.measures-init
measures-init c = record { timed = timed-start (c.chart_measures-chart.ensures c.args.text.now); same_text = refl }

pub next-requires : goal.next-requires
next-requires c = read-on c.measures.invariant.timed.read (omega (arith, c.requires.text_room, c.measures.invariant.same_text))

pub overflow_mul-end : goal.overflow_mul-end
overflow_mul-end c = omega (arith, timed-within c.measures.invariant.timed c.in-Some.ensures)

pub overflow_add-end : goal.overflow_add-end
overflow_add-end c = omega (arith, timed-within c.measures.invariant.timed c.in-Some.ensures)

pub overflow_cast-measure : goal.overflow_cast-measure
overflow_cast-measure c = omega (arith, timed-number c.measures.invariant.timed c.in-Some.ensures c.requires.text_length)

pub overflow_cast-measure-in-Some : goal.overflow_cast-measure-in-Some
overflow_cast-measure-in-Some c = omega (arith, timed-few c.measures.invariant.timed c.in-Some.ensures c.requires.text_length c.args.lanes.within.0)

pub append_row_beats-requires : goal.append_row_beats-requires
append_row_beats-requires c =
    let k = c.measures.invariant.timed in
    let wide = c.args.lanes.within.0 in
    record {
      beats_room = omega (arith, timed-most k c.in-Some.ensures wide, c.requires.beats_room, c.measures.auto.beats);
      rows_few = omega (arith, timed-few k c.in-Some.ensures c.requires.text_length wide);
      measures_few = timed-number k c.in-Some.ensures c.requires.text_length;
    }

pub slice_bounds-has_head-end : goal.slice_bounds-has_head-end
slice_bounds-has_head-end c = omega (arith, timed-within c.measures.invariant.timed c.in-Some.ensures)

pub overflow_add-rows : goal.overflow_add-rows
overflow_add-rows c = omega (arith, timed-few c.measures.invariant.timed c.in-Some.ensures c.requires.text_length c.args.lanes.within.0)

pub measures-smaller : goal.measures-smaller
measures-smaller c = left-less c.in-Some.ensures

pub measures-preserved : goal.measures-preserved
measures-preserved c =
    let k = c.measures.invariant in
    let wide = c.args.lanes.within.0 in
    record {
      timed =
          timed-next k.timed c.in-Some.ensures (omega (arith, timed-most k.timed c.in-Some.ensures wide, c.requires.beats_room, c.measures.auto.beats))
          _ _ c.append_row_beats.ensures c.has_head-heads.ensures;
      same_text = omega (arith, c.next.auto.text, k.same_text);
    }

pub zero_past-requires-clause-in_bounds : goal.zero_past-requires-clause-in_bounds
zero_past-requires-clause-in_bounds c =
    let k = c.measures.invariant in
    omega (arith, read-short (c.in_default.ensures.read _ _ _ _ k.timed.read), c.requires.text_room, c.next.auto.text, k.same_text)

pub zero_past-requires-2-clause-in_bounds : goal.zero_past-requires-2-clause-in_bounds
zero_past-requires-2-clause-in_bounds c = omega (arith, all-most c.measures.invariant.timed c.args.lanes.within.0, c.requires.beats_room, c.measures.auto.beats)

pub returns : goal.returns
unfolding of_bits of_int
returns c =
    let k = c.measures.invariant in
    let n = c.in_default.ensures in
    record {
      value = all-figures k.timed n (omega (arith, c.requires.text_room, c.next.auto.text, k.same_text));
      text_after = c.zero_past.ensures ∙ all-written k.timed n (length c.args.text.now) (c.next.auto.text ∙ k.same_text) c.requires.text_room;
      beats_after = c.zero_past-2.ensures ∙ all-beats k.timed n c.args.lanes.within.0 (length c.args.beats.now) c.measures.auto.beats c.requires.beats_room;
    }
