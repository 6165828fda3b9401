-- The rows that are read back out of minimised text are few.
use mathlib.Core.Path.{ap}
use mathlib.Core.List.{List}
use Prim.Native.Nat.{ℕ, ◌≤◌}
use native.Mathlib.Omega.{arith}
use lib.ListN.{length}
use Rattle.definitions.specs.Sizes.{most_bytes}
use Rattle.definitions.specs.Lanes.{most_rows_in}
use Rattle.definitions.specs.Figures.{minimised_text}
use Rattle.definitions.specs.ReadBack.{OwnRows}
use Rattle.definitions.proofs.ChartRows.{minimised-rows-few, minimised-short}
use Rattle.definitions.proofs.OwnRows.{own-rows}
use Rattle.corrected_tally.specs.Room.{Room}

-- A work slice that a call was accepted with has room for the rows of its minimised text.
pub minimised-room : (L : ℕ) (text work : List ℕ) → 1 ≤ L → length text ≤ most_bytes → most_rows_in L (length text) ≤ length work → Room L (minimised_text L text) work
unfolding OwnRows
minimised-room L text work l s w =
    record {
      short = omega (arith, minimised-short L text);
      room = omega (arith, ap length (own-rows L text l), minimised-rows-few L text l, w);
    }
