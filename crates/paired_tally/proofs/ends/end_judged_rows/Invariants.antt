-- `ends::end_judged_rows` meets its contract. The loop's invariant: the first i rows are counted whole, of the others the cells alone, and so many
-- holds are open.
use Prim.Native.Nat.{ℕ, ◌≤◌}
use mathlib.Core.Path.{◌≡◌}
use mathlib.Core.Bool.{Bool, false}
use mathlib.Core.List.{List}
use lib.ListN.{length}
use Rattle.definitions.specs.Lines.{Row}
use Rattle.paired_tally.specs.Paired.{PairedRows}
use Rattle.paired_tally.proofs.RowEnds.{JudgedEnding}
use Rattle.paired_tally.proofs.ends.end_judged_rows.Given as goal

abbrev pub invariant-loop-i : goal.invariant-loop-i
invariant-loop-i l =
    (J : ℕ → Bool) (L : ℕ) (all : List Row) → length all ≡ l.rows → L ≤ 10 → PairedRows false J L all l.counted l.work → JudgedEnding J L all l.i l.active l.stats
