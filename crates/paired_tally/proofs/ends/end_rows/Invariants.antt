-- `ends::end_rows` meets its contract. The loop's invariant: the first i rows are counted whole, and of the others the cells alone.
use Prim.Native.Nat.{ℕ, ◌≤◌}
use mathlib.Core.Path.{◌≡◌}
use mathlib.Core.Bool.{Bool, true}
use mathlib.Core.List.{List}
use lib.ListN.{length}
use Rattle.definitions.specs.Lines.{Row}
use Rattle.paired_tally.specs.Paired.{PairedRows}
use Rattle.paired_tally.proofs.RowEnds.{PlainEnding}
use Rattle.paired_tally.proofs.ends.end_rows.Given as goal

abbrev pub invariant-loop-i : goal.invariant-loop-i
invariant-loop-i l = (J : ℕ → Bool) (L : ℕ) (all : List Row) → length all ≡ l.rows → L ≤ 10 → PairedRows true J L all l.counted l.work → PlainEnding all l.i l.stats
