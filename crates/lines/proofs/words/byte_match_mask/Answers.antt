-- `lines::words::byte_match_mask` meets its contract: after the exclusive or a byte keeps its bit only where it is zero. Assumes nothing.
use Rattle.std.proofs.Common.{ℕ, ◌*◌, ap, arith}
use lib.Bits.{bit_xor}
use Rattle.lines.specs.Words.{bytes_of_word}
use Rattle.lines.proofs.WordBytes.{low-bytes-long, low-bytes-small, word-whole}
use Rattle.lines.proofs.Matches.{matches}
use Rattle.lines.proofs.words.byte_match_mask.Goals as goal

pub returns : goal.returns
returns c =
    matches (bytes_of_word c.args.word) c.args.word c.args.byte _ (low-bytes-long 8 _) (low-bytes-small 8 _) (word-whole c.args.word (omega arith)) (omega arith) (ap (λ (k : ℕ). bit_xor c.args.word (k * 72340172838076673)) c.from.ensures)
