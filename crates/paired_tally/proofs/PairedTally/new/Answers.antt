-- `PairedTally::new` meets its contract: no row has come.
use mathlib.Core.Path.{ap, sym, ◌∙◌}
use native.Mathlib.Omega.{arith}
use lib.ListN.{length}
use Rattle.holds.proofs.Stacks.{stack-length}
use Rattle.paired_tally.specs.Paired.{numbers_after}
use Rattle.paired_tally.proofs.PairedTally.new.Goals as goal

pub returns : goal.returns
unfolding numbers_after
returns c plain J L work z =
    record {
      wide = λ i h. absurd (omega arith);
      stacks = c.new.ensures.open_heads;
      sized = c.new.ensures.sized;
      busy = λ i h e. sym (stack-length c.new.result i) ∙ ap length (c.new.ensures.open_heads i h);
      stats = c.no_stats.ensures;
      entries = λ i h. absurd (omega arith);
      later = λ i h. z i;
    }
