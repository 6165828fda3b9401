-- A work slice that is all 0.
use mathlib.Core.Path.{◌≡◌}
use mathlib.Core.List.{List}
use Prim.Native.Nat.{ℕ}
use native.Mathlib.Nat.{sub-zero}
use lib.ListN.{length, replicate}
use Rattle.slices.specs.Zeroed.{zeroed}

pub zeroed-all : (l : List ℕ) → zeroed 0 0 l ≡ replicate (length l) 0
zeroed-all l = rw sub-zero
