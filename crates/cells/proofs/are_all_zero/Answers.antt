-- `cells::are_all_zero` meets its contract.
use mathlib.Core.Path.{◌∙◌}
use Rattle.std.proofs.Common.{rules}
use borrow.Author.Tests.{tests}
use lib.Dec.{eqb}
use Rattle.std.proofs.lemmas.Iterator.{YieldsList-from_slice}
use Rattle.std.proofs.lemmas.Iterator.Search.{all_from_yields_List}
use Rattle.cells.proofs.ZeroRows.{zero-all}
use Rattle.cells.proofs.are_all_zero.Goals as goal

pub returns : goal.returns
returns c =
    all_from_yields_List (λ b. eqb b 48) _ _ _ c.all.ensures.ran (YieldsList-from_slice c.args.row.now cc) (λ x b q k. search (rules, tests))
    ∙ zero-all c.args.row.now
