-- `lines::has_byte` meets its contract. The loop's invariant: the bytes have it where `has` is true or those still to come have it. Assumes nothing.
use mathlib.Core.Path.{◌≡◌}
use mathlib.Core.Bool.{◌||◌}
use lib.ListN.{drop}
use Rattle.definitions.specs.Lists.{among}
use Rattle.lines.proofs.has_byte.Given as goal

abbrev pub invariant-loop-b : goal.invariant-loop-b
invariant-loop-b l = among l.needle l.bytes ≡ (l.has || among l.needle (drop l.b-index l.bytes))
