-- Clean columns: those in which every head is paired, so that the holds open before a row are the heads that are open there. Their phantom depth
-- is the number of their open heads.
use Rattle.std.specs.Prelude.{Option, Some, None, Bool, true, false, not, ◌||◌, if◌then◌else◌, List, [], ◌∷◌, ℕ, nat_lt, nat_le}
use Rattle.definitions.specs.Lists.{some_column}
use Rattle.definitions.specs.Lines.{Row}
use Rattle.definitions.specs.Cells.{byte_at}
use Rattle.definitions.specs.Tracker.{hold_at}
use Rattle.definitions.specs.Correction.{phantom_step, phantom_after}
use Rattle.definitions.specs.Judged.{judged_rows}
use Rattle.definitions.specs.declared.ArrowStats.{ArrowStats}
use Rattle.definitions.specs.declared.DepthEffect.{DepthEffect}
use Rattle.definitions.specs.declared.DepthEffect.TheVariants.{Nothing, Blocks, Opens, Closes}

-- What leaves a head unpaired in a column of depth d: a 1, M, L or F where a head is open, or a ninth head.
abbrev pub unpairs : DepthEffect → ℕ → Bool
unpairs Nothing d = false
unpairs Blocks d = nat_lt 0 d
unpairs Opens d = nat_le 8 d
unpairs Closes d = false

-- a row has such a cell in column c, from the depth d on
abbrev pub unpairs_from : ℕ → ℕ → List Row → Bool
unpairs_from c d [] = false
unpairs_from c d (r ∷ rs) = unpairs (hold_at (byte_at c r)) d || unpairs_from c (phantom_step (hold_at (byte_at c r)) d) rs

-- Rows are clean where in no column a cell leaves a head unpaired, and none is left open at the end.
unfoldable pub is_clean : List Row → Bool
is_clean rows = not (some_column 10 (λ c. unpairs_from c 0 rows || nat_lt 0 (phantom_after c 0 rows)))

-- every row is judged
abbrev pub every : ℕ → Bool
every i = true

-- The answer: the judged tally of clean rows, every row judged, and none of other rows.
unfoldable pub clean_answer : ℕ → List Row → Option ArrowStats
clean_answer L rows = if is_clean rows then Some (judged_rows L every rows) else None
