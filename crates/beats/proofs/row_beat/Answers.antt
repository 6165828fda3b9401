-- `beats::row_beat` meets its contract. Assumes nothing.
use Rattle.std.proofs.Common.{◌∙◌}
use Rattle.beats.proofs.Row.{beat-is}
use Rattle.beats.proofs.row_beat.Goals as goal

pub returns : goal.returns
returns c =
    c.mul_add.ensures ∙ beat-is c.args.m c.args.r c.args.n c.step_units-s.result c.step_units-s.ensures.value
