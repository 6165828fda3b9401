-- Specification, Correction: the phantom depths, when a tally is counted anew, and with which heads.
use Rattle.std.specs.Prelude.{Bool, true, false, if◌then◌else◌, ◌&&◌, ◌||◌, not, List, [], ◌∷◌, ℕ, suc, ◌-◌, ◌==◌, nat_lt, count_by}
use Rattle.definitions.specs.Lists.{joined, some_column}
use Rattle.definitions.specs.Lines.{Row}
use Rattle.definitions.specs.Cells.{byte_at}
use Rattle.definitions.specs.Tracker.{Pair, pairs, is_head_of, hold_at}
use Rattle.definitions.specs.Tally.{tally}
use Rattle.definitions.specs.declared.DepthEffect.{DepthEffect}
use Rattle.definitions.specs.declared.DepthEffect.TheVariants.{Nothing, Blocks, Opens, Closes}
use Rattle.definitions.specs.declared.ArrowStats.{ArrowStats}

-- "The phantom depth rises by one at 2 and 4, falls by one at 3 but not below 0, and changes at nothing else."
abbrev pub phantom_step : DepthEffect → ℕ → ℕ
phantom_step Nothing d = d
phantom_step Blocks d = d
phantom_step Opens d = suc d
phantom_step Closes d = d - 1

-- the phantom depth of column c after rows, from the depth d on
abbrev pub phantom_after : ℕ → ℕ → List Row → ℕ
phantom_after c d [] = d
phantom_after c d (r ∷ rs) = phantom_after c (phantom_step (hold_at (byte_at c r)) d) rs

-- "a 1, M, L or F stands in a column whose phantom depth before it is over 0"
abbrev pub meets_phantom : DepthEffect → ℕ → Bool
meets_phantom Nothing d = false
meets_phantom Blocks d = nat_lt 0 d
meets_phantom Opens d = false
meets_phantom Closes d = false

-- one is met in column c of rows, from the depth d on
abbrev pub phantom_met : ℕ → ℕ → List Row → Bool
phantom_met c d [] = false
phantom_met c d (r ∷ rs) = meets_phantom (hold_at (byte_at c r)) d || phantom_met c (phantom_step (hold_at (byte_at c r)) d) rs

-- a head: "The heads are the cells 2 and 4, and the tails are the cells 3."
abbrev pub is_opening : DepthEffect → Bool
is_opening Nothing = false
is_opening Blocks = false
is_opening Opens = true
is_opening Closes = false

-- a tail
abbrev pub is_closing : DepthEffect → Bool
is_closing Nothing = false
is_closing Blocks = false
is_closing Opens = false
is_closing Closes = true

-- the heads of rows
abbrev pub head_count : List Row → ℕ
head_count rows = count_by (λ b. is_opening (hold_at b)) (joined rows)

-- the tails of rows
abbrev pub tail_count : List Row → ℕ
tail_count rows = count_by (λ b. is_closing (hold_at b)) (joined rows)

-- "A tally is counted anew if its rows have a head and one of these holds besides": "heads and tails are not equal in number", "a 1, M, L or F stands
-- in a column whose phantom depth before it is over 0" or "a phantom depth is over 0 after the last row", of rows of L bytes. "Each column has a
-- phantom depth, 0 before the first row."
unfoldable pub corrects : ℕ → List Row → Bool
corrects L rows =
    nat_lt 0 (head_count rows)
    && (not (head_count rows == tail_count rows)
    || some_column L (λ c. phantom_met c 0 rows || nat_lt 0 (phantom_after c 0 rows)))

-- a cell as it is counted anew: a head that is not paired is an empty cell, a `0`
abbrev pub head_if_paired : DepthEffect → Bool → ℕ → ℕ
head_if_paired Nothing p b = b
head_if_paired Blocks p b = b
head_if_paired Opens p b = if p then b else 48
head_if_paired Closes p b = b

-- row i from column c on, where ps has the pairs of each column
abbrev pub keep_row : (ℕ → List Pair) → ℕ → ℕ → Row → Row
keep_row ps i c [] = []
keep_row ps i c (b ∷ r) = head_if_paired (hold_at b) (is_head_of i (ps c)) b ∷ keep_row ps i (suc c) r

-- rows numbered from i, each with its paired heads alone
abbrev pub keep_from : (ℕ → List Pair) → ℕ → List Row → List Row
keep_from ps i [] = []
keep_from ps i (r ∷ rs) = keep_row ps i 0 r ∷ keep_from ps (suc i) rs

-- The rows as they are counted anew. "In counting anew a head that the hold tracker does not pair, over the rows that are counted anew, is an empty
-- cell, and all else counts as before."
unfoldable pub paired_only : List Row → List Row
paired_only rows = keep_from (pairs rows) 0 rows

-- t with n steps: "`total_steps` keeps what was counted first."
abbrev pub tally_with_steps : ℕ → ArrowStats → ArrowStats
tally_with_steps n t = record t { total_steps = n }

-- The tally of rows, corrected over `back`, the rows as that pass reads them again. "The main and the kept tally count all minimised rows of a chart,
-- and are each corrected so."
unfoldable pub corrected : ℕ → List Row → List Row → ArrowStats
corrected L rows back =
    if corrects L rows then tally_with_steps (tally rows).total_steps (tally (paired_only back)) else tally rows
