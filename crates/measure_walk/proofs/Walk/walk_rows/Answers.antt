-- `measure_walk::Walk::walk_rows` meets its contract.
use mathlib.Core.Path.{subst}
use Rattle.measure_tally.specs.Counted.{Counted}
use Rattle.tap_walk.specs.Noted.{NotedRows}
use Rattle.measure_walk.proofs.Runs.{walked-none, row-asked, walked-next, whole}
use Rattle.measure_walk.proofs.Walk.walk_rows.Goals as goal

pub loop-i-init : goal.loop-i-init
loop-i-init c = walked-none _ _ _ _ _ _ c.requires.ten

pub add_row-requires-clause-ready : goal.add_row-requires-clause-ready
add_row-requires-clause-ready c =
    row-asked _ _ c.args.text.now _ c.requires.in_text c.args.table.now.lanes.within.1 _ _ _ _ _ _ c.loop-i.invariant c.requires.walking c.loop-i-test.true

pub loop-i-preserved : goal.loop-i-preserved
loop-i-preserved c =
    walked-next _ _ c.args.text.now _ c.requires.in_text c.args.table.now.lanes.within.1 _ _ _ _ _ _ c.loop-i.invariant c.requires.walking c.loop-i-test.true _ _ c.add_row.auto.slots c.add_row.ensures

pub returns-clause-counted : goal.returns-clause-counted
returns-clause-counted c = λ done x.
    let v = c.loop-i.invariant in
    let all = whole _ _ c.args.text.now _ c.requires.in_text c.args.table.now.lanes.within.1 _ _ _ _ _ _ v c.requires.walking c.loop-i-test.false in
    rw c.end_rows.ensures.counting_stays (subst (Counted c.args.table.now.lanes.count _ done) all (v.counted done x))

pub returns-clause-noted : goal.returns-clause-noted
returns-clause-noted c = λ done x.
    let v = c.loop-i.invariant in
    let all = whole _ _ c.args.text.now _ c.requires.in_text c.args.table.now.lanes.within.1 _ _ _ _ _ _ v c.requires.walking c.loop-i-test.false in
    c.end_rows.ensures.noted c.args.table.now.lanes.count _ done _ (subst (NotedRows c.args.table.now.lanes.count _ _ done) all (v.noted done x))
