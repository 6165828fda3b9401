-- `lines::past_blocks` meets its contract: 32 bytes that do not have it are passed. Assumes nothing.
use Rattle.std.proofs.Common.{sym, ◌∙◌}
use Rattle.lines.proofs.SliceWords.{block_passed}
use Rattle.lines.proofs.past_blocks.Goals as goal

pub loop-i-preserved : goal.loop-i-preserved
loop-i-preserved c = (
  c.loop-i-test.true,
  c.loop-i.invariant.1 ∙ block_passed _ _ _ c.loop-i-test.true (sym c.has_byte.ensures ∙ c.if-has_byte.false),
)
