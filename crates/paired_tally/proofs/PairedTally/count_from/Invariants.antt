-- `PairedTally::count_from` meets its contract. The loop's invariant: the cells before `column` are counted.
use mathlib.Core.Bool.{not}
use lib.Dec.{eqb}
use Prim.Native.Nat.{◌-◌, ◌≤◌}
use lib.ListN.{length}
use Rattle.paired_tally.specs.Cells.{Within, GoneOn}
use Rattle.paired_tally.proofs.PairedTally.count_from.Given as goal

abbrev pub invariant-loop-column : goal.invariant-loop-column
invariant-loop-column g l =
    (l.column ≤ length l.cells)
    × (Within (not (eqb g.row.PLAIN 0)) (not (eqb g.row.JUDGED 0)) l.row l.cells l.column l.self l.work × GoneOn (not (eqb g.row.PLAIN 0)) (not (eqb g.row.JUDGED 0)) l.row l.cells l.fn.from l.fn.self l.fn.work l.column l.self l.work)

abbrev pub decreases-loop-column : goal.decreases-loop-column
decreases-loop-column g l = length l.cells - l.column
