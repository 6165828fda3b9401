-- `lines::words::has_byte` meets its contract: the hits are not 0 where the first place is one of the eight. Assumes nothing.
use Rattle.std.proofs.Common.{arith}
use Rattle.lines.specs.Words.{bytes_of_word}
use Rattle.lines.proofs.WordBytes.{low-bytes-long}
use Rattle.lines.proofs.SliceWords.{hits-among}
use Rattle.lines.proofs.words.has_byte.Goals as goal

pub returns : goal.returns
returns c = hits-among _ c.byte_hits.result (bytes_of_word c.args.word) (low-bytes-long 8 _) (omega arith) c.byte_hits.ensures
