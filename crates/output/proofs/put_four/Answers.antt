-- `output::put_four` meets its contract.
use mathlib.Core.Path.{◌∙◌}
use Rattle.reduction.proofs.Moves.{four-pasted}
use Rattle.output.proofs.Writing.{paste-spliced}
use Rattle.output.proofs.put_four.Goals as goal

pub returns : goal.returns
returns c =
    four-pasted c.args.text.now c.args.at c.args.row.now c.args.from c.requires.from_within c.requires.text_room
    ∙ paste-spliced c.args.text.now c.args.at _ 4
