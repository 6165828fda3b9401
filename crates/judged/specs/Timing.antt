-- What the judged tallies answer, all rows judged or by the flags.
use Rattle.std.specs.Borrow.{Bor}
use Rattle.std.specs.Prelude.{Option, None, Some, Bool, true, List, ℕ}
use Rattle.definitions.specs.ReadBack.{rows_read_back}
use Rattle.definitions.specs.Judged.{judged_at, judged_rows}
use Rattle.definitions.specs.declared.ArrowStats.{ArrowStats}

-- which rows are judged: all, or by the flags
abbrev pub judged_by : Option (Bor (List ℕ)) → ℕ → Bool
judged_by None i = true
judged_by (Some flags) i = judged_at flags.now i

-- the judged tally of a text, all rows judged or by the flags
abbrev pub tally_by : Option (Bor (List ℕ)) → ℕ → List ℕ → ArrowStats
tally_by flags L text = judged_rows L (judged_by flags) (rows_read_back L text)
