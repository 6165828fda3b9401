-- `phantoms::is_left_over` meets its contract.
use mathlib.Core.Path.{◌∙◌}
use Rattle.std.proofs.Common.{rules}
use borrow.Author.Tests.{tests}
use lib.Dec.{ltb}
use Rattle.std.proofs.lemmas.Iterator.{YieldsList-from_slice, YieldsList-from_take}
use Rattle.std.proofs.lemmas.Iterator.Search.{any_from_yields_List}
use Rattle.phantoms.proofs.Corrected.{any_left}
use Rattle.phantoms.proofs.is_left_over.Goals as goal

pub returns : goal.returns
returns c =
    any_from_yields_List (λ d. ltb 0 d) _ _ _ c.any.ensures.ran (YieldsList-from_take c.args.lanes (YieldsList-from_slice c.args.p.depths cc) c.take.ensures.count) (λ x b q k. search (rules, tests))
    ∙ any_left c.args.p.depths c.args.lanes
