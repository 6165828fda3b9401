-- `reader::has_byte` meets its contract: std's search finds a byte that is among the list.
use mathlib.Core.Path.{◌∙◌}
use Rattle.std.proofs.Common.{rules}
use borrow.Author.Tests.{tests}
use lib.Dec.{eqb}
use Rattle.std.proofs.lemmas.Iterator.{YieldsList-from_slice}
use Rattle.std.proofs.lemmas.Iterator.Search.{any_from_yields_List}
use Rattle.reader.proofs.LineKinds.{among-any}
use Rattle.reader.proofs.has_byte.Goals as goal

pub returns : goal.returns
returns c =
    any_from_yields_List (λ b. eqb b c.args.byte) _ _ _ c.any.ensures.ran (YieldsList-from_slice c.args.bytes.now cc) (λ x b q k. search (rules, tests))
    ∙ among-any c.args.byte c.args.bytes.now
