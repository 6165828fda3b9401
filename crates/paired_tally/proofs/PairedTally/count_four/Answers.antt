-- `PairedTally::count_four` meets its contract: one cell after the other.
use mathlib.Core.Bool.{not}
use lib.Dec.{eqb}
use Prim.Native.Nat.{◌+◌}
use native.Mathlib.Omega.{arith}
use Rattle.paired_tally.specs.Cells.{GoneOn}
use Rattle.paired_tally.proofs.Within.{within-on, gone-on}
use Rattle.paired_tally.proofs.PairedTally.count_four.Given.{Over}
use Rattle.paired_tally.proofs.PairedTally.count_four.Goals.{After-count_at-3}
use Rattle.paired_tally.proofs.PairedTally.count_four.Goals as goal

-- what three cells leave
three : (g : Over) (c : After-count_at-3 g) → GoneOn (not (eqb g.row.PLAIN 0)) (not (eqb g.row.JUDGED 0)) c.args.row c.args.cells.now c.args.from c.args.self.now c.args.work.now (c.args.from + 3) c.count_at-3.new.self c.count_at-3.new.work
three g c =
    let w = c.requires.reached in
    gone-on w _ (gone-on w _ c.count_at.ensures c.count_at-2.ensures (omega arith)) c.count_at-3.ensures (omega arith)

pub count_at-requires-4-clause-reached : goal.count_at-requires-4-clause-reached
count_at-requires-4-clause-reached g c = within-on c.requires.reached (three g (goal.at.count_at-requires-4-clause-reached g c).After-count_at-3) (omega arith)

pub returns : goal.returns
returns g c = gone-on c.requires.reached _ (three g (goal.at.returns g c).After-count_at-3) c.count_at-4.ensures (omega arith)
