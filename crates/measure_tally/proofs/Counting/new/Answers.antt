-- `measure_tally::Counting::new` meets its contract: no row is counted, and all phantom depths are 0.
use Rattle.measure_tally.proofs.Rows.{counted_start}
use Rattle.std.proofs.Common.{rules}
use native.Mathlib.Omega.{arith}
use Rattle.measure_tally.proofs.Counting.new.Goals as goal

pub returns : goal.returns
returns c = λ L h. counted_start L _ _ 0 c.no_stats.ensures (c.no_phantoms.ensures L h) (λ k inside none. (c.no_phantoms.ensures 10 (omega arith)).depths k inside) (search rules)
