-- `presses::count_hits` meets its contract.
use Rattle.std.proofs.Common.{◌∙◌}
use native.Mathlib.Omega.{arith}
use Rattle.presses.proofs.Records.{in-trace, trace-over, press-read}
use Rattle.presses.proofs.Counts.{found-of, walking-start, press-narrow, press-fits, walked-press, walked}
use Rattle.presses.proofs.Orders.{narrow-trace, rising-trace}
use Rattle.presses.proofs.count_hits.Goals as goal

pub loop-bytes-init : goal.loop-bytes-init
loop-bytes-init c =
    walking-start c.args.records.now c.args.trace.now c.requires.rising (narrow-trace c.args.trace.now c.requires.trace) (rising-trace c.args.trace.now c.requires.trace)

pub bounds-hits-press : goal.bounds-hits-press
bounds-hits-press c =
    press-narrow c.loop-bytes.invariant (in-trace c.args.trace.now c.as_chunks.ensures.front c.loop-bytes-test.true)
    (c.press_of_five-press.ensures ∙ press-read c.args.trace.now c.as_chunks.ensures.front _ c.loop-bytes-test.true)

pub bounds-hits-press-in-loop-bytes : goal.bounds-hits-press-in-loop-bytes
bounds-hits-press-in-loop-bytes c =
    press-narrow c.loop-bytes.invariant (in-trace c.args.trace.now c.as_chunks.ensures.front c.loop-bytes-test.true)
    (c.press_of_five-press.ensures ∙ press-read c.args.trace.now c.as_chunks.ensures.front _ c.loop-bytes-test.true)

pub overflow_add-hits : goal.overflow_add-hits
overflow_add-hits c =
    omega (
      arith,
      press-fits c.loop-bytes.invariant
          (found-of (in-trace c.args.trace.now c.as_chunks.ensures.front c.loop-bytes-test.true)
          (c.press_of_five-press.ensures ∙ press-read c.args.trace.now c.as_chunks.ensures.front _ c.loop-bytes-test.true)
          c.reach-place.ensures.place c.reach-place.ensures.noted c.is_first-hit.ensures c.from.ensures),
    )

pub loop-bytes-preserved : goal.loop-bytes-preserved
loop-bytes-preserved c =
    walked-press c.loop-bytes.invariant
    (found-of (in-trace c.args.trace.now c.as_chunks.ensures.front c.loop-bytes-test.true)
    (c.press_of_five-press.ensures ∙ press-read c.args.trace.now c.as_chunks.ensures.front _ c.loop-bytes-test.true)
    c.reach-place.ensures.place c.reach-place.ensures.noted c.is_first-hit.ensures c.from.ensures)

pub returns : goal.returns
returns c = walked c.loop-bytes.invariant (trace-over c.args.trace.now c.as_chunks.ensures.front c.loop-bytes-test.false)
