-- What a row of taps alone leaves, in columns without an open head.
use Rattle.std.specs.Prelude.{◌≡◌, Bool, List, ℕ, slice_set}
use Rattle.definitions.specs.Lines.{Row}
use Rattle.row_tally.specs.Raised.{with_cells}
use Rattle.paired_tally.specs.Entry.{entry_of}
use Rattle.paired_tally.specs.Paired.{kind_sum}
use Rattle.paired_tally.specs.declared.PairedTally.{PairedTally}

-- The open heads stay, its cells are counted, and its entry is set: no head and no tail is in it.
pub record FreeCounted (plain judged : Bool) (row : ℕ) (cells : Row) (t : PairedTally) (work : List ℕ) (t' : PairedTally) (work' : List ℕ) : Type 0 where
  pub tracker : t'.tracker ≡ t.tracker
  pub stats : t'.stats ≡ with_cells t.stats (kind_sum plain judged cells)
  pub entry : work' ≡ slice_set work row (entry_of plain judged (kind_sum plain judged cells) 0)
