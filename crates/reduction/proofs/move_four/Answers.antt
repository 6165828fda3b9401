-- `reduction::move_four` meets its contract.
use mathlib.Core.Path.{◌∙◌}
use Rattle.reduction.proofs.Moves.{four-pasted, moved-within}
use Rattle.reduction.proofs.move_four.Goals as goal

pub returns : goal.returns
returns c =
    four-pasted c.args.text.now c.args.to c.args.text.now c.args.from c.requires.from_within c.requires.to_within
    ∙ moved-within c.args.text.now c.args.from c.args.to 4
