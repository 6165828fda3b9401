-- `measure_walk::Walk::new` meets its contract: nothing is counted and noted.
use mathlib.Core.Path.{refl}
use native.Mathlib.Omega.{arith}
use Rattle.std.proofs.Common.{rules}
use Rattle.measure_tally.proofs.Rows.{counted_start}
use Rattle.measure_walk.proofs.Starts.{noted-new}
use Rattle.measure_walk.proofs.Walk.new.Goals as goal

pub returns : goal.returns
returns c = record {
  ten = record { depths = search rules; object_depths = refl; heads = refl };
  counted = λ L h. counted_start L _ _ 0 c.no_stats.ensures (c.no_phantoms.ensures L h) (λ k inside free. (c.no_phantoms.ensures 10 (omega arith)).depths k inside) (search rules);
  noted = λ L l. noted-new L l;
  nothing_walked = refl;
}
