-- `presses::count_presses` meets its contract.
use native.Mathlib.Omega.{arith}
use Rattle.presses.proofs.Orders.{narrow-trace}
use Rattle.presses.proofs.Places.{column-less, hits-within, notes-within, hits-of-notes, places-are}
use Rattle.presses.proofs.count_presses.Goals as goal

pub sum_of-hit-requires : goal.sum_of-hit-requires
sum_of-hit-requires c =
    omega (arith, hits-within c.args.records.now c.args.trace.now _ _ c.requires.passed.rising (narrow-trace _ c.requires.passed.trace) c.count_hits-hits.ensures c.requires.played)

pub overflow_sub-result : goal.overflow_sub-result
overflow_sub-result c =
    omega (arith, c.sum_of-hit.ensures, hits-within c.args.records.now c.args.trace.now _ _ c.requires.passed.rising (narrow-trace _ c.requires.passed.trace) c.count_hits-hits.ensures c.requires.played)

pub sum_of-requires : goal.sum_of-requires
sum_of-requires c =
    omega (arith, notes-within c.args.records.now c.args.trace.now _ _ c.requires.passed.rising (narrow-trace _ c.requires.passed.trace) c.count_hits-hits.ensures c.requires.played)

pub overflow_sub-result-2 : goal.overflow_sub-result-2
overflow_sub-result-2 c =
    omega (arith, c.sum_of-hit.ensures, c.sum_of.ensures, hits-of-notes c.args.records.now c.args.trace.now _ _ c.requires.passed.rising (narrow-trace _ c.requires.passed.trace) c.count_hits-hits.ensures c.requires.played)

pub overflow_sub-result-3 : goal.overflow_sub-result-3
overflow_sub-result-3 c =
    column-less c.args.records.now c.args.trace.now _ _ c.requires.passed.rising (narrow-trace _ c.requires.passed.trace) c.count_hits-hits.ensures c.requires.played 0 (omega arith)

pub overflow_sub-result-4 : goal.overflow_sub-result-4
overflow_sub-result-4 c =
    column-less c.args.records.now c.args.trace.now _ _ c.requires.passed.rising (narrow-trace _ c.requires.passed.trace) c.count_hits-hits.ensures c.requires.played 1 (omega arith)

pub overflow_sub-result-5 : goal.overflow_sub-result-5
overflow_sub-result-5 c =
    column-less c.args.records.now c.args.trace.now _ _ c.requires.passed.rising (narrow-trace _ c.requires.passed.trace) c.count_hits-hits.ensures c.requires.played 2 (omega arith)

pub overflow_sub-result-6 : goal.overflow_sub-result-6
overflow_sub-result-6 c =
    column-less c.args.records.now c.args.trace.now _ _ c.requires.passed.rising (narrow-trace _ c.requires.passed.trace) c.count_hits-hits.ensures c.requires.played 3 (omega arith)

pub overflow_sub-result-7 : goal.overflow_sub-result-7
overflow_sub-result-7 c =
    column-less c.args.records.now c.args.trace.now _ _ c.requires.passed.rising (narrow-trace _ c.requires.passed.trace) c.count_hits-hits.ensures c.requires.played 4 (omega arith)

pub overflow_sub-result-8 : goal.overflow_sub-result-8
overflow_sub-result-8 c =
    column-less c.args.records.now c.args.trace.now _ _ c.requires.passed.rising (narrow-trace _ c.requires.passed.trace) c.count_hits-hits.ensures c.requires.played 5 (omega arith)

pub overflow_sub-result-9 : goal.overflow_sub-result-9
overflow_sub-result-9 c =
    column-less c.args.records.now c.args.trace.now _ _ c.requires.passed.rising (narrow-trace _ c.requires.passed.trace) c.count_hits-hits.ensures c.requires.played 6 (omega arith)

pub overflow_sub-result-10 : goal.overflow_sub-result-10
overflow_sub-result-10 c =
    column-less c.args.records.now c.args.trace.now _ _ c.requires.passed.rising (narrow-trace _ c.requires.passed.trace) c.count_hits-hits.ensures c.requires.played 7 (omega arith)

pub overflow_sub-result-11 : goal.overflow_sub-result-11
overflow_sub-result-11 c =
    column-less c.args.records.now c.args.trace.now _ _ c.requires.passed.rising (narrow-trace _ c.requires.passed.trace) c.count_hits-hits.ensures c.requires.played 8 (omega arith)

pub overflow_sub-result-12 : goal.overflow_sub-result-12
overflow_sub-result-12 c =
    column-less c.args.records.now c.args.trace.now _ _ c.requires.passed.rising (narrow-trace _ c.requires.passed.trace) c.count_hits-hits.ensures c.requires.played 9 (omega arith)

pub returns : goal.returns
returns c =
    places-are c.args.records.now c.args.trace.now _ _ c.requires.passed.rising (narrow-trace _ c.requires.passed.trace) c.count_hits-hits.ensures c.requires.played _ _
    c.sum_of-hit.ensures c.sum_of.ensures
