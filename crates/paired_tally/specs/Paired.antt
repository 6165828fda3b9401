-- What the tally and the work slice hold after rows, each with its paired heads alone.
use Rattle.std.specs.Prelude.{◌≡◌, Bool, true, false, List, [], ◌∷◌, ◌++◌, ℕ, suc, ◌+◌, ◌*◌, ◌≤◌, ◌<◌, ◌==◌, length, slice_index, slice_index_or}
use Rattle.definitions.specs.Lists.{number_of_bool}
use Rattle.definitions.specs.Lines.{Row}
use Rattle.definitions.specs.Cells.{byte_at}
use Rattle.definitions.specs.Tracker.{Pair, next_stack, hold_at, pairs}
use Rattle.definitions.specs.Tally.{row_sum, empty_stats}
use Rattle.definitions.specs.Correction.{keep_row}
use Rattle.definitions.specs.Judged.{judged_sum}
use Rattle.definitions.specs.declared.RowSum.{RowSum}
use Rattle.definitions.specs.declared.ArrowStats.{ArrowStats}
use Rattle.taps.specs.Taps.{FreeAre}
use Rattle.holds.specs.Stacks.{stack_of, Sized}
use Rattle.holds.specs.Tracks.{ends_at}
use Rattle.row_tally.specs.Ends.{cells_from}
use Rattle.paired_tally.specs.Entry.{entry_of}
use Rattle.paired_tally.specs.declared.PairedTally.{PairedTally}

-- What a row adds up to: in a plain tally, or in a judged one, where it is judged or not.
abbrev pub kind_sum : Bool → Bool → Row → RowSum
kind_sum true judged r = row_sum r
kind_sum false judged r = judged_sum judged r

-- What row i adds up to with its paired heads alone, where ps has the pairs of each column.
abbrev pub kept_sum : Bool → (ℕ → Bool) → (ℕ → List Pair) → ℕ → Row → RowSum
kept_sum plain J ps i r = kind_sum plain (J i) (keep_row ps i 0 r)

-- The counts of rows numbered from i on top of t: steps, jumps, hands and what is held are yet to be told.
abbrev pub counts_from : Bool → (ℕ → Bool) → (ℕ → List Pair) → ArrowStats → ℕ → List Row → ArrowStats
counts_from plain J ps = cells_from (kept_sum plain J ps)

-- what row i adds up to
abbrev pub sum_at : Bool → (ℕ → Bool) → (ℕ → List Pair) → List Row → ℕ → RowSum
sum_at plain J ps rows i = kept_sum plain J ps i (slice_index_or rows i [])

-- A head as the tracker keeps it: twice its row, and 1 more for a roll.
abbrev pub head_number : ℕ → ℕ → ℕ
head_number i b = 2 * i + number_of_bool (b == 52)

-- The open heads of column c after rows numbered from i, with the open heads st before them, each by that number.
abbrev pub numbers_from : ℕ → ℕ → List ℕ → List Row → List ℕ
numbers_from c i st [] = st
numbers_from c i st (r ∷ rs) = numbers_from c (suc i) (next_stack (hold_at (byte_at c r)) (head_number i (byte_at c r)) st) rs

unfoldable pub numbers_after : List Row → ℕ → List ℕ
numbers_after rows c = numbers_from c 0 [] rows

-- The tally and the work slice after rows of L cells, of a plain tally or of a judged one, where J says which rows are judged: in the tracker the open
-- heads, in the tally the rows' counts, in the slice an entry for each row. Entries past the rows are 0.
pub record PairedRows (plain : Bool) (J : ℕ → Bool) (L : ℕ) (rows : List Row) (t : PairedTally) (work : List ℕ) : Type 0 where
  pub wide : (i : ℕ) → i < length rows → length (slice_index_or rows i []) ≡ L
  pub stacks : (c : ℕ) → c < 10 → stack_of t.tracker c ≡ numbers_after rows c
  pub sized : Sized t.tracker
  pub busy : FreeAre t.tracker.busy 0 t.tracker.depths
  pub stats : t.stats ≡ counts_from plain J (pairs rows) empty_stats 0 rows
  pub entries : (i : ℕ) → i < length rows → slice_index work i ≡ entry_of plain (J i) (sum_at plain J (pairs rows) rows i) (ends_at J rows i)
  pub later : (i : ℕ) → length rows ≤ i → slice_index work i ≡ 0

-- The tally and the work slice are what some rows of L cells have left, this many.
pub record LeftByRows (plain : Bool) (L row : ℕ) (t : PairedTally) (work : List ℕ) : Type 0 where
  pub judging : ℕ → Bool
  pub rows : List Row
  pub size : length rows ≡ row
  pub paired : PairedRows plain judging L rows t work

-- One row more: whatever rows these are the tally and the work slice of, what is left is that of those rows and this one.
abbrev pub RowCounted : Bool → Bool → ℕ → Row → PairedTally → List ℕ → PairedTally → List ℕ → Type 0
RowCounted plain judged row cells t work t' work' =
    (J : ℕ → Bool) (rows : List Row) → length rows ≡ row → J row ≡ judged → PairedRows plain J (length cells) rows t work
    → PairedRows plain J (length cells) (rows ++ (cells ∷ [])) t' work'
