-- `lines::words::byte_hits` meets its contract: after the exclusive or a zero byte stands where the byte looked for stood, and its high bit is the lowest one set. Assumes nothing.
use Rattle.std.proofs.Common.{ℕ, ◌*◌, ap, ◌∙◌, arith}
use lib.Bits.{bit_xor}
use Rattle.lines.specs.Words.{bytes_of_word}
use Rattle.lines.proofs.WordBytes.{low-bytes-long, low-bytes-small, word-whole}
use Rattle.lines.proofs.Hits.{hits-place}
use Rattle.lines.proofs.words.byte_hits.Goals as goal

pub returns : goal.returns
returns c =
    rw c.from.ensures
    (hits-place (bytes_of_word c.args.word) c.args.word c.args.byte c.wrapping_sub_u64.result (low-bytes-long 8 _) (low-bytes-small 8 _) (word-whole c.args.word (omega arith)) (omega arith) (omega arith)
    (c.wrapping_sub_u64.ensures.value ∙ ap (λ (k : ℕ). bit_xor c.args.word (k * 72340172838076673)) c.from.ensures))
