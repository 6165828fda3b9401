-- Each record that is written takes the lowest bit off the mask: there is room for it, and the drafts are those of the cells up to that bit.
-- When no bit is left the other cells are `0`s, which make no note.
use Rattle.std.proofs.Common.{arith}
use Rattle.row_notes.proofs.Masks.{mask-small, mask_start, mask_next, mask-few, mask-early, mask-late, mask_end}
use Rattle.row_notes.proofs.push_mask.Goals as goal

pub returns-then-mask-eq0 : goal.returns-then-mask-eq0
returns-then-mask-eq0 c s cells F = mask_end _ _ _ _ s cells F _ _ _ (mask_start _ _ _ _ s cells F) c.if-mask-eq0.true

pub low_bit-one-requires : goal.low_bit-one-requires
low_bit-one-requires c = rw c.from.ensures (mask-small _ _ _ _ _ _ c.requires.fits)

pub push_tap-count-requires : goal.push_tap-count-requires
push_tap-count-requires c =
    let F = c.requires.fits in
    let t = mask_start _ _ _ _ _ _ F in
    record {
      notes_room = mask-early _ _ _ _ _ _ F _ _ _ t (omega arith);
      column_narrow = c.low_bit-one.ensures.inside;
      notes_few = mask-few _ _ _ _ _ _ F _ _ _ t;
    }

pub loop-left-init : goal.loop-left-init
loop-left-init c = λ s cells F.
    let first = c.push_tap-count.ensures in
    mask_next _ _ _ _ s cells F _ _ _ (mask_start _ _ _ _ s cells F) _ _ _ (rw c.from.ensures at c.low_bit-one.ensures) _ _ first.notes_after first.value c.push_tap-count.auto.notes

pub low_bit-next-requires : goal.low_bit-next-requires
low_bit-next-requires c = (c.loop-left.invariant _ _ c.requires.fits).small

pub push_tap-count-requires-in-loop-left : goal.push_tap-count-requires-in-loop-left
push_tap-count-requires-in-loop-left c =
    let F = c.requires.fits in
    let t = c.loop-left.invariant _ _ F in
    record {
      notes_room = mask-late _ _ _ _ _ _ F _ _ _ t _ _ _ c.low_bit-next.ensures (omega (arith, c.loop-left-test.true));
      column_narrow = c.low_bit-next.ensures.inside;
      notes_few = mask-few _ _ _ _ _ _ F _ _ _ t;
    }

pub loop-left-preserved : goal.loop-left-preserved
loop-left-preserved c = λ s cells F.
    let next = c.push_tap-count-in-loop-left.ensures in
    mask_next _ _ _ _ s cells F _ _ _ (c.loop-left.invariant s cells F) _ _ _ c.low_bit-next.ensures _ _ next.notes_after next.value c.push_tap-count-in-loop-left.auto.notes

pub returns : goal.returns
returns c = λ s cells F. mask_end _ _ _ _ s cells F _ _ _ (c.loop-left.invariant s cells F) (omega (arith, c.loop-left-test.false))
