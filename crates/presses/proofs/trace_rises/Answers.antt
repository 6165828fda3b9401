-- `presses::trace_rises` meets its contract.
use Rattle.std.proofs.Common.{sym, ap, ◌∙◌, ◌+◌, ◌≤◌, ◌<◌}
use native.Mathlib.Omega.{arith}
use borrow.Author.Tests.{le-leb, lt-leb}
use Rattle.definitions.specs.Presses.{columns_fit, presses_rise}
use Rattle.std.proofs.Common.{◌&&◌}
use Rattle.presses.proofs.Records.{to_come, come-is, come-over, all-come}
use Rattle.presses.proofs.Orders.{fits_after, fits-next, fits-wide, fits-falls, fits-end}
use Rattle.presses.proofs.trace_rises.Goals as goal

pub loop-bytes-init : goal.loop-bytes-init
loop-bytes-init c = ap (λ ps. columns_fit ps && presses_rise ps) (sym (all-come c.args.trace.now))

pub returns-then-press-gt-LAST_COLUMN : goal.returns-then-press-gt-LAST_COLUMN
returns-then-press-gt-LAST_COLUMN c =
    let p = c.press_of_five-press.result in
    let wide : 9 < p.column = omega (arith, c.if-press-gt-LAST_COLUMN.true) in
    sym
    (c.loop-bytes.invariant
    ∙ ap (fits_after c.loop-bytes.last) (come-is c.args.trace.now c.as_chunks.ensures.front _ c.loop-bytes-test.true _ c.press_of_five-press.ensures)
    ∙ fits-wide c.loop-bytes.last p (to_come c.args.trace.now (c.loop-bytes.bytes-index + 1)) (lt-leb p.column 9 wide))

pub returns-then-falls : goal.returns-then-falls
returns-then-falls c =
    sym
    (c.loop-bytes.invariant
    ∙ ap (fits_after c.loop-bytes.last) (come-is c.args.trace.now c.as_chunks.ensures.front _ c.loop-bytes-test.true _ c.press_of_five-press.ensures)
    ∙ fits-falls c.loop-bytes.last c.press_of_five-press.result (to_come c.args.trace.now (c.loop-bytes.bytes-index + 1)) (sym c.falls.ensures ∙ c.if-falls.true))

pub loop-bytes-preserved : goal.loop-bytes-preserved
loop-bytes-preserved c =
    let p = c.press_of_five-press.result in
    let narrow : p.column ≤ 9 = omega (arith, c.if-press-gt-LAST_COLUMN.false) in
    c.loop-bytes.invariant
    ∙ ap (fits_after c.loop-bytes.last) (come-is c.args.trace.now c.as_chunks.ensures.front _ c.loop-bytes-test.true _ c.press_of_five-press.ensures)
    ∙ fits-next c.loop-bytes.last p (to_come c.args.trace.now (c.loop-bytes.bytes-index + 1)) (le-leb p.column 9 narrow) (sym c.falls.ensures ∙ c.if-falls.false)

pub returns : goal.returns
returns c =
    sym (c.loop-bytes.invariant ∙ ap (fits_after c.loop-bytes.last) (come-over c.args.trace.now c.as_chunks.ensures.front _ c.loop-bytes-test.false) ∙ fits-end c.loop-bytes.last)
