-- `taps::tap_mask4` meets its contract: the word passes where every byte does, and then its bits are the mask.
use Rattle.lines.proofs.RowWords.{bytes_of}
use Rattle.taps.proofs.Words.{four-mask, four-other}
use Rattle.taps.proofs.tap_mask4.Goals as goal

pub returns-then-word-ne808464432 : goal.returns-then-word-ne808464432
returns-then-word-ne808464432 c = four-other c.args.row.now c.requires _ c.half_at-word.ensures.value c.if-word-ne808464432.true

pub returns : goal.returns
returns c =
    four-mask c.args.row.now c.requires _ c.half_at-word.ensures.value (bytes_of c.args.row.now (λ k. (c.type_inv.row k).fits)) c.if-word-ne808464432.false
