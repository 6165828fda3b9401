-- What the loops over the entries of rows ask: some rows of at most ten cells, this many, are counted.
use Rattle.std.specs.Prelude.{Bool, List, ℕ, ◌≤◌}
use Rattle.paired_tally.specs.Paired.{LeftByRows}
use Rattle.paired_tally.specs.declared.PairedTally.{PairedTally}

pub record Counted (plain : Bool) (row : ℕ) (t : PairedTally) (work : List ℕ) : Type 0 where
  pub lanes : ℕ
  pub narrow : lanes ≤ 10
  pub left : LeftByRows plain lanes row t work
