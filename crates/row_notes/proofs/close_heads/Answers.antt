-- A head that is dropped at the end is no note, as one that still waits is none; after ten columns no head is open.
use Rattle.std.proofs.Common.{◌<◌, arith}
use Rattle.row_notes.proofs.Closing.{closing-ready, closing-step, closing_end}
use Rattle.row_notes.proofs.close_heads.Goals as goal

pub invalidate_hold-s-requires : goal.invalidate_hold-s-requires
invalidate_hold-s-requires c =
    let inside : c.loop-column.column < 10 = omega arith in
    closing-ready _ _ _ _ _ c.loop-column.invariant c.requires inside

pub loop-column-preserved : goal.loop-column-preserved
loop-column-preserved c =
    let inside : c.loop-column.column < 10 = omega arith in
    closing-step _ _ _ _ _ c.loop-column.invariant c.requires _ _ inside c.invalidate_hold-s.auto.notes c.invalidate_hold-s.ensures

pub returns : goal.returns
returns c = closing_end _ _ _ _ _ c.loop-column.invariant c.requires c.loop-column-test.false
