-- `reader::begins_row` meets its contract: the first line's row test, by the text's bytes.
use Rattle.std.proofs.Common.{arith}
use Rattle.reader.proofs.Plain.{short-first, long-first}
use Rattle.reader.proofs.begins_row.Goals as goal

pub returns-then-short : goal.returns-then-short
returns-then-short c = short-first _ _ c.if-short.true

pub returns : goal.returns
returns c = rw (c.has_byte.ensures, c.has_byte-2.ensures) (long-first _ _ (omega (arith, c.if-short.false)))
