-- `reader::back::is_back_row` meets its contract: a line's first byte is its text's.
use Rattle.reader.proofs.PlainBack.{back-told}
use Rattle.reader.proofs.back.is_back_row.Goals as goal

pub returns : goal.returns
returns c = back-told _ _ _ c.begins_row.ensures
