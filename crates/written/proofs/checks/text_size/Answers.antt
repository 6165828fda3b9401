-- `checks::text_size` meets its contract.
use native.Mathlib.Omega.{arith}
use Rattle.written.proofs.Sizes.{long-rows, long-measures, long-bytes, short-bytes, bytes-are}
use Rattle.written.proofs.checks.text_size.Goals.{then-measures-gt0, else-measures-gt0}
use Rattle.written.proofs.checks.text_size.Goals as goal

pub returns-then-measures-clause-refused : goal.returns-then-measures-clause-refused
returns-then-measures-clause-refused c = long-measures c.args.lanes.count c.args.counts.now (omega (arith, c.if-measures.true))

pub returns-in-None-clause-refused : goal.returns-in-None-clause-refused
returns-in-None-clause-refused c = long-rows c.args.lanes.count c.args.counts.now c.args.lanes.within.0 c.in-None.ensures.many

pub returns-then-bytes-gt-MOST_BYTES-clause-refused : goal.returns-then-bytes-gt-MOST_BYTES-clause-refused
returns-then-bytes-gt-MOST_BYTES-clause-refused c =
    let rows = c.in-Some.ensures.sum in
    elim c.if-measures-gt0.branch [
      | then-measures-gt0 w ↦ long-bytes c.args.lanes.count c.args.counts.now _ _ rows (omega (arith, w.bytes-is)) c.if-bytes-gt-MOST_BYTES.true
      | else-measures-gt0 w ↦ long-bytes c.args.lanes.count c.args.counts.now _ _ rows (omega (arith, w.bytes-is, w.if-measures-gt0.false)) c.if-bytes-gt-MOST_BYTES.true
    ]

pub returns-clause-accepted : goal.returns-clause-accepted
returns-clause-accepted c =
    let rows = c.in-Some.ensures.sum in
    elim c.if-measures-gt0.branch [
      | then-measures-gt0 w ↦ short-bytes c.args.lanes.count c.args.counts.now _ _ rows (omega (arith, w.bytes-is)) c.if-bytes-gt-MOST_BYTES.false
      | else-measures-gt0 w ↦ short-bytes c.args.lanes.count c.args.counts.now _ _ rows (omega (arith, w.bytes-is, w.if-measures-gt0.false)) c.if-bytes-gt-MOST_BYTES.false
    ]

pub returns-clause-bytes : goal.returns-clause-bytes
returns-clause-bytes c =
    let rows = c.in-Some.ensures.sum in
    elim c.if-measures-gt0.branch [
      | then-measures-gt0 w ↦ bytes-are c.args.lanes.count c.args.counts.now _ _ rows (omega (arith, w.bytes-is))
      | else-measures-gt0 w ↦ bytes-are c.args.lanes.count c.args.counts.now _ _ rows (omega (arith, w.bytes-is, w.if-measures-gt0.false))
    ]
