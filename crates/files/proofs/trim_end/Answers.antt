-- `files::trim_end` meets its contract: std's white space is the blanks. Assumes nothing.
use Rattle.std.proofs.Common.{rules}
use Rattle.files.proofs.Words.{trim_std}
use Rattle.files.proofs.trim_end.Goals as goal

pub returns : goal.returns
returns c = search (rules, trim_std)
