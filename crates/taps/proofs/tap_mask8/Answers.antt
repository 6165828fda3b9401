-- `taps::tap_mask8` meets its contract: the word passes where every byte does, and then its bits are the mask.
use Rattle.lines.proofs.RowWords.{bytes_of}
use Rattle.taps.proofs.Words.{least-eight, eight-mask, eight-other}
use Rattle.taps.proofs.tap_mask8.Goals as goal

pub returns-then-word-ne3472328296227680304 : goal.returns-then-word-ne3472328296227680304
returns-then-word-ne3472328296227680304 c =
    eight-other c.args.row.now c.requires (bytes_of c.args.row.now (λ k. (c.type_inv.row k).fits)) _ _ c.half_at-first.ensures.value c.half_at-second.ensures.value
    c.half_at-first.ensures.below c.half_at-second.ensures.below c.if-word-ne3472328296227680304.true

pub overflow_sub-bits : goal.overflow_sub-bits
overflow_sub-bits c =
    (least-eight c.args.row.now c.requires (bytes_of c.args.row.now (λ k. (c.type_inv.row k).fits)) _ _ c.half_at-first.ensures.value c.half_at-second.ensures.value
    c.half_at-first.ensures.below c.half_at-second.ensures.below c.if-word-ne3472328296227680304.false).0

pub returns : goal.returns
returns c =
    eight-mask c.args.row.now c.requires (bytes_of c.args.row.now (λ k. (c.type_inv.row k).fits)) _ _ c.half_at-first.ensures.value c.half_at-second.ensures.value
    c.half_at-first.ensures.below c.half_at-second.ensures.below c.if-word-ne3472328296227680304.false
