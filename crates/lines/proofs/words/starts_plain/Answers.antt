-- `lines::words::starts_plain` meets its contract: the mask leaves the high bits of the first bytes alone, of which that of the first that is not plain is
-- the lowest one set. Assumes nothing.
use Rattle.std.proofs.Common.{arith}
use Rattle.lines.specs.Words.{bytes_of_word}
use Rattle.lines.proofs.WordBytes.{low-bytes-long, low-bytes-small, word-whole}
use Rattle.lines.proofs.Hits.{plain-place}
use Rattle.lines.proofs.Lows.{high-told}
use Rattle.lines.proofs.words.starts_plain.Goals as goal

pub returns : goal.returns
returns c =
    high-told _ c.args.n _ c.requires.some c.requires.few
    (plain-place (bytes_of_word c.args.word) c.args.word c.wrapping_sub_u64.result (low-bytes-long 8 _) (low-bytes-small 8 _) (word-whole c.args.word (omega arith)) (omega arith) c.wrapping_sub_u64.ensures.value)
