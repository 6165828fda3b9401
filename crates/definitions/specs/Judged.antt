-- Specification, Judged tally.
use Rattle.std.specs.Prelude.{Bool, true, false, ◌&&◌, not, List, [], ◌∷◌, ℕ, suc, ◌+◌, ◌==◌, nat_lt, nat_le, slice_index_or, count_by}
use Rattle.definitions.specs.Lists.{sum_columns}
use Rattle.definitions.specs.Lines.{Row}
use Rattle.definitions.specs.Cells.{cell_of, effects_of}
use Rattle.definitions.specs.Tracker.{Pair, pairs}
use Rattle.definitions.specs.Tally.{empty_sum, row_sum_by, empty_stats, tally_with_sum}
use Rattle.definitions.specs.Correction.{keep_row}
use Rattle.definitions.specs.ReadBack.{rows_read_back}
use Rattle.definitions.specs.declared.Cell.{Cell}
use Rattle.definitions.specs.declared.RowSum.{RowSum}
use Rattle.definitions.specs.declared.ArrowStats.{ArrowStats}

-- "0 is unjudged, any other is judged. A row past the flags is unjudged, and flags are counted as the rows are."
unfoldable pub judged_at : List ℕ → ℕ → Bool
judged_at flags i = not (slice_index_or flags i 0 == 0)

-- "On a judged row the arrows are 1, L, l and the paired heads."
abbrev pub is_judged_arrow : Cell → Bool
is_judged_arrow x = (effects_of x).judged_arrow

-- "On an unjudged row each 1, L, l, M, m, F, f and paired head is one fake, and nothing else is counted."
abbrev pub is_unjudged_fake : Cell → Bool
is_unjudged_fake x = (effects_of x).unjudged_fake

-- a sum of n fakes and nothing else
abbrev pub sum_of_fakes : ℕ → RowSum
sum_of_fakes n = record empty_sum { fakes = n }

-- What a row adds up to, judged or not, where its paired heads alone are left. "Of a judged row directions are those of its arrows, holds and rolls
-- its paired heads, and mines, lifts, fakes and keysounds are counted as in a tally."
unfoldable pub judged_sum : Bool → Row → RowSum
judged_sum true r = row_sum_by is_judged_arrow r
judged_sum false r = sum_of_fakes (count_by (λ b. is_unjudged_fake (cell_of b)) r)

-- "A judged row is a step with at least one arrow and a jump with at least two. A judged row is a hand if it has an arrow, mine or fake, and its
-- arrows and the holds open before it make 3 or more." "`holding` stays 0."
unfoldable pub judge_row : ArrowStats → Bool → ℕ → RowSum → ArrowStats
judge_row t judged held s =
    tally_with_sum t s (judged && (nat_le 1 (s.arrows + s.mines + s.fakes) && nat_le 3 (s.arrows + held))) 0

-- The holds of a column's pairs that are open before row i, where J says which rows are judged. "A paired head on a judged row opens a hold, which is
-- open before each later row through its tail's row. A head on an unjudged row opens none."
abbrev pub open_of : (ℕ → Bool) → ℕ → List Pair → ℕ
open_of J i ps = count_by (λ (p : Pair). J p.head && (nat_lt p.head i && nat_le i p.tail)) ps

-- of all L columns
unfoldable pub open_before : ℕ → (ℕ → Bool) → (ℕ → List Pair) → ℕ → ℕ
open_before L J ps i = sum_columns L (λ c. open_of J i (ps c))

-- the tally t with rows more, numbered from i, where ps has the pairs of each column
abbrev pub judge_from : ℕ → (ℕ → Bool) → (ℕ → List Pair) → ArrowStats → ℕ → List Row → ArrowStats
judge_from L J ps t i [] = t
judge_from L J ps t i (r ∷ rs) =
    judge_from L J ps (judge_row t (J i) (open_before L J ps i) (judged_sum (J i) (keep_row ps i 0 r))) (suc i) rs

-- the judged tally of rows, where J says which of them are judged
unfoldable pub judged_rows : ℕ → (ℕ → Bool) → List Row → ArrowStats
judged_rows L J rows = judge_from L J (pairs rows) empty_stats 0 rows

-- "A judged tally counts the rows of its text, read back. `process_rows_judgable` judges every row."
unfoldable pub judged_tally : ℕ → List ℕ → ArrowStats
judged_tally L text = judged_rows L (λ i. true) (rows_read_back L text)

-- "`process_timing_rows` goes by flags, one byte a row"
unfoldable pub flagged_tally : ℕ → List ℕ → List ℕ → ArrowStats
flagged_tally L flags text = judged_rows L (judged_at flags) (rows_read_back L text)
