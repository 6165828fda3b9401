-- `timing::has_head` meets its contract. The loop's invariant: the bytes have a head where `has` is true or those still to come have one.
use mathlib.Core.Path.{◌≡◌}
use mathlib.Core.Bool.{◌||◌}
use lib.ListN.{drop}
use Rattle.definitions.specs.TimingRows.{has_some_head}
use Rattle.timing.proofs.has_head.Given as goal

abbrev pub invariant-loop-b : goal.invariant-loop-b
invariant-loop-b l = has_some_head l.bytes ≡ (l.has || has_some_head (drop l.b-index l.bytes))
