-- `cells::cells_have_note` meets its contract: a step is a row of which some cell is an arrow.
use mathlib.Core.Path.{◌∙◌}
use Rattle.std.proofs.Common.{rules}
use borrow.Author.Tests.{tests}
use Rattle.std.proofs.lemmas.Iterator.{YieldsList-from_slice}
use Rattle.std.proofs.lemmas.Iterator.Search.{any_from_yields_List}
use Rattle.definitions.specs.Cells.{cell_of, is_arrow}
use Rattle.cells.proofs.Arrows.{step-any}
use Rattle.cells.proofs.cells_have_note.Goals as goal

pub returns : goal.returns
returns c =
    any_from_yields_List (λ b. is_arrow (cell_of b)) _ _ _ c.any.ensures.ran (YieldsList-from_slice c.args.row.now cc) (λ x b q k. search (rules, tests))
    ∙ step-any c.args.row.now
