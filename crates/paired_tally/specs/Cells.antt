-- Within a row: the cells before a column are counted, and the row is as if `0` stood from there on.
use Rattle.std.specs.Prelude.{if◌then◌else◌, ◌||◌, ◌*◌, ◌%◌, ◌==◌, nat_le, slice_index, slice_set, ◌≡◌, Bool, true, false, ◌+◌, List, [], ◌∷◌, ◌++◌, ℕ, zero, suc, ◌≤◌, ◌<◌, length}
use Rattle.std.specs.Int.Bits.{bit_or}
use Rattle.definitions.specs.Sizes.{row_numbers_bound}
use Rattle.definitions.specs.Lists.{number_of_bool}
use Rattle.definitions.specs.Lines.{Row}
use Rattle.definitions.specs.Cells.{hold_effect, is_arrow, mine, fake}
use Rattle.definitions.specs.Tally.{counted_as, place, empty_sum}
use Rattle.definitions.specs.Correction.{is_closing}
use Rattle.definitions.specs.Judged.{is_judged_arrow, is_unjudged_fake}
use Rattle.definitions.specs.declared.ArrowStats.{ArrowStats}
use Rattle.row_tally.specs.Raised.{with_cells}
use Rattle.definitions.specs.declared.Cell.{Cell}
use Rattle.definitions.specs.declared.Cell.TheVariants.{Hold, Roll}
use Rattle.definitions.specs.declared.RowSum.{RowSum}
use Rattle.row_tally.specs.Sums.{add_by}
use Rattle.paired_tally.specs.Paired.{PairedRows}
use Rattle.paired_tally.specs.declared.PairedTally.{PairedTally}

-- the row with its cells before column k alone
abbrev pub begun : Row → ℕ → Row
begun [] k = []
begun (b ∷ r) zero = 48 ∷ begun r zero
begun (b ∷ r) (suc k) = b ∷ begun r k

-- The tally and the work slice are within a row of at most ten cells, of some rows.
pub record Within (plain judged : Bool) (row : ℕ) (cells : Row) (k : ℕ) (t : PairedTally) (work : List ℕ) : Type 0 where
  pub judging : ℕ → Bool
  pub rows : List Row
  pub size : length rows ≡ row
  pub here : judging row ≡ judged
  pub paired : PairedRows plain judging (length cells) (rows ++ (begun cells k ∷ [])) t work
  pub narrow : length cells ≤ 10
  pub room : row < length work
  pub few : row < row_numbers_bound

-- the cells from column k to k' are counted too
abbrev pub GoneOn : Bool → Bool → ℕ → Row → ℕ → PairedTally → List ℕ → ℕ → PairedTally → List ℕ → Type 0
GoneOn plain judged row cells k t work k' t' work' =
    (J : ℕ → Bool) (rows : List Row) → length rows ≡ row → J row ≡ judged → PairedRows plain J (length cells) (rows ++ (begun cells k ∷ [])) t work
    → PairedRows plain J (length cells) (rows ++ (begun cells k' ∷ [])) t' work'

-- what a row adds up to with a cell more in a column of direction d
abbrev pub add_kind : Bool → Bool → RowSum → ℕ → Cell → RowSum
add_kind true judged s d x = add_by false s d x
add_kind false true s d x = add_by true s d x
add_kind false false s d x = record s { fakes = s.fakes + number_of_bool (is_unjudged_fake x) }

-- the head that a number stands for
abbrev pub head_cell : ℕ → Cell
head_cell v = if v % 2 == 1 then Roll else Hold

-- a mine or fake
abbrev pub is_other : Cell → Bool
is_other x = place (counted_as x) == place mine || place (counted_as x) == place fake

-- a row's entry with a cell more that is no head
abbrev pub own_entry : Bool → Bool → Cell → ℕ → ℕ
own_entry true judged x entry = entry + number_of_bool (is_arrow x) + 256 * number_of_bool (is_closing (hold_effect x))
own_entry false true x entry = if is_other x then bit_or entry 4096 else entry + number_of_bool (is_judged_arrow x)
own_entry false false x entry = entry

-- a head counts by itself in a plain tally, and in a judged one where its row is judged: else it is a fake
abbrev pub head_counts : Bool → ℕ → Bool
head_counts plain entry = plain || nat_le 8192 entry

-- what a pair adds to the tally where its head counts and where it does not, and what it makes of the entries of its rows
abbrev pub pair_stats : Bool → ℕ → ℕ → ArrowStats → ArrowStats
pair_stats counts v d u = with_cells u (add_kind counts false empty_sum d (head_cell v))

abbrev pub pair_work : Bool → ℕ → ℕ → List ℕ → List ℕ
pair_work true h row work = slice_set (slice_set work h (slice_index work h + 17)) row (slice_index work row + 256)
pair_work false h row work = work
