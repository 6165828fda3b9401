-- Minimised measures have no more rows than there were.
use mathlib.Core.List.{List, [], ◌∷◌, map}
use Prim.Native.Nat.{◌≤◌}
use native.Mathlib.Omega.{arith}
use lib.ListN.{length, length-append}
use Rattle.definitions.specs.Lists.{joined}
use Rattle.definitions.specs.Lines.{Row}
use Rattle.definitions.specs.Reduction.{reduce}
use Rattle.definitions.proofs.Thinned.{Thinned, none, keep, leave, reduce-thin}

thin-short : {s t : List Row} → Thinned s t → length t ≤ length s
thin-short none = omega arith
thin-short (keep p) = omega (arith, thin-short p)
thin-short (leave z p) = omega (arith, thin-short p)

pub reduce-short : (rs : List Row) → length (reduce rs) ≤ length rs
reduce-short rs = thin-short (reduce-thin rs)

pub rows_short : (ms : List (List Row)) → length (joined (map reduce ms)) ≤ length (joined ms)
rows_short [] = omega arith
rows_short (m ∷ ms) = omega (arith, length-append (reduce m) (joined (map reduce ms)), length-append m (joined ms), reduce-short m, rows_short ms)
