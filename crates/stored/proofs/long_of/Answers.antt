-- `stored::long_of` meets its contract: the bytes of the number that eight bytes say are those bytes.
use Rattle.std.proofs.Common.{rules}
use Rattle.std.proofs.lemmas.Nat.{le_bytes_8}
use Rattle.stored.specs.Layout.{long_bytes}
use Rattle.stored.proofs.long_of.Goals as goal

pub returns-clause-bytes : goal.returns-clause-bytes
unfolding long_bytes
returns-clause-bytes c = le_bytes_8 c.args.bytes _ (search rules) (search rules) c.from_le_bytes.ensures
