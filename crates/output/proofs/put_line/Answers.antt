-- `output::put_line` meets its contract: one byte after the row.
use Prim.Native.Nat.{◌<◌, ◌+◌}
use mathlib.Core.Path.{ap, ◌∙◌}
use native.Mathlib.Omega.{arith}
use lib.ListN.{length, set}
use Rattle.output.proofs.Writing.{placed-byte}
use Rattle.output.proofs.put_line.Goals as goal

pub returns : goal.returns
returns c =
    let room : c.args.at + length c.args.row.now < length c.args.text.now = omega arith in
    ap (λ l. set l (c.args.at + length c.args.row.now) 10) c.put_row.ensures ∙ placed-byte c.args.text.now c.args.at c.args.row.now 10 room
