-- Specification, Tally: what one row adds up to, and the plain tally of rows.
use Rattle.std.specs.Prelude.{if◌then◌else◌, Bool, ◌&&◌, List, [], ◌∷◌, ℕ, suc, ◌+◌, ◌-◌, ◌%◌, ◌==◌, nat_le, count_by, length, slice_index, codes, map}
use Rattle.definitions.specs.Lists.{number_of_bool}
use Rattle.definitions.specs.Lines.{Row}
use Rattle.definitions.specs.Cells.{cell_of, is_arrow, effects_of, CountKind, nothing, hold, roll, tail, mine, lift, fake, keysound}
use Rattle.definitions.specs.declared.Cell.{Cell}
use Rattle.definitions.specs.declared.RowSum.{RowSum}
use Rattle.definitions.specs.declared.ArrowStats.{ArrowStats}

-- what a cell is counted as
abbrev pub counted_as : Cell → CountKind
counted_as x = (effects_of x).counted

-- a number for each, so that two can be compared
abbrev pub place : CountKind → ℕ
place nothing = 0
place hold = 1
place roll = 2
place tail = 3
place mine = 4
place lift = 5
place fake = 6
place keysound = 7

-- The cells of a row that are counted so: of holds "cells 2", of rolls "cells 4", of mines "cells M and m", of lifts "cells L and l", of fakes "cells
-- F and f", of keysounds "cells K".
abbrev pub counted : CountKind → Row → ℕ
counted k r = count_by (λ b. place (counted_as (cell_of b)) == place k) r

-- the cells of a row, from column c on, that pass a test of column and cell
abbrev pub count_from : (ℕ → Cell → Bool) → ℕ → Row → ℕ
count_from p c [] = 0
count_from p c (b ∷ r) = number_of_bool (p c (cell_of b)) + count_from p (suc c) r

-- the directions of six columns: "at 6 lanes the columns are left, up-left, down, up, up-right, right"
abbrev pub six_columns : List ℕ
six_columns = 0 ∷ 4 ∷ 1 ∷ 2 ∷ 5 ∷ 3 ∷ []

-- The direction of a column of L, a table for each layout. "The direction of an arrow is its column mod 4, but at 6 lanes the columns are left,
-- up-left, down, up, up-right, right."
unfoldable pub direction : ℕ → ℕ → ℕ
direction L c = if L == 6 then slice_index six_columns c else c % 4

-- the arrows of a row in the columns of direction d: "arrows of that direction"
abbrev pub arrows_towards : ℕ → (Cell → Bool) → Row → ℕ
arrows_towards d arrow r = count_from (λ c x. arrow x && direction (length r) c == d) 0 r

-- What the cells of a row add up to, where `arrow` says which of them are arrows; "The directions are 0 left, 1 down, 2 up, 3 right, 4
-- up-left and 5 up-right."
abbrev pub sum_of_cells : (Cell → Bool) → Row → RowSum
sum_of_cells arrow r =
    record {
      arrows = count_from (λ c x. arrow x) 0 r;
      left = arrows_towards 0 arrow r;
      down = arrows_towards 1 arrow r;
      up = arrows_towards 2 arrow r;
      right = arrows_towards 3 arrow r;
      holds = counted hold r;
      rolls = counted roll r;
      tails = counted tail r;
      mines = counted mine r;
      lifts = counted lift r;
      fakes = counted fake r;
      keysounds = counted keysound r;
      up_left = arrows_towards 4 arrow r;
      up_right = arrows_towards 5 arrow r;
    }

-- the same, as a word that is opened only where it is named
unfoldable pub row_sum_by : (Cell → Bool) → Row → RowSum
row_sum_by arrow r = sum_of_cells arrow r

-- the sum of no cells
abbrev pub empty_sum : RowSum
empty_sum = sum_of_cells is_arrow []

-- "The arrows are the cells 1, 2 and 4."
unfoldable pub row_sum : Row → RowSum
row_sum r = row_sum_by is_arrow r

-- the counts of a row's sum in their order
abbrev pub sum_counts : RowSum → List ℕ
sum_counts s =
    s.arrows
    ∷ s.left
    ∷ s.down
    ∷ s.up
    ∷ s.right
    ∷ s.holds
    ∷ s.rolls
    ∷ s.tails
    ∷ s.mines
    ∷ s.lifts
    ∷ s.fakes
    ∷ s.keysounds
    ∷ s.up_left
    ∷ s.up_right
    ∷ []

-- the tally of no rows: "a tally of zeros"
abbrev pub empty_stats : ArrowStats
empty_stats =
    record {
      total_arrows = 0;
      left = 0;
      down = 0;
      up = 0;
      right = 0;
      total_steps = 0;
      jumps = 0;
      hands = 0;
      mines = 0;
      holds = 0;
      rolls = 0;
      lifts = 0;
      fakes = 0;
      holding = 0;
      keysounds = 0;
      up_left = 0;
      up_right = 0;
    }

-- "the tally, its fields in their order", each with its name: the one list of them.
abbrev pub tally_fields : ArrowStats → List (List ℕ × ℕ)
tally_fields t =
    (codes "total_arrows", t.total_arrows)
    ∷ (codes "left", t.left)
    ∷ (codes "down", t.down)
    ∷ (codes "up", t.up)
    ∷ (codes "right", t.right)
    ∷ (codes "total_steps", t.total_steps)
    ∷ (codes "jumps", t.jumps)
    ∷ (codes "hands", t.hands)
    ∷ (codes "mines", t.mines)
    ∷ (codes "holds", t.holds)
    ∷ (codes "rolls", t.rolls)
    ∷ (codes "lifts", t.lifts)
    ∷ (codes "fakes", t.fakes)
    ∷ (codes "holding", t.holding)
    ∷ (codes "keysounds", t.keysounds)
    ∷ (codes "up_left", t.up_left)
    ∷ (codes "up_right", t.up_right)
    ∷ []

-- the counts of a tally in that order
abbrev pub tally_figures : ArrowStats → List ℕ
tally_figures t = map (λ (f : List ℕ × ℕ). f.1) (tally_fields t)

-- A tally with one row more, where `hand` says whether it is a hand and `holding` what is held after it. "A step is a row with an arrow", and jumps
-- are "rows with at least two arrows".
abbrev pub tally_with_sum : ArrowStats → RowSum → Bool → ℕ → ArrowStats
tally_with_sum t s hand holding =
    record {
      total_arrows = t.total_arrows + s.arrows;
      left = t.left + s.left;
      down = t.down + s.down;
      up = t.up + s.up;
      right = t.right + s.right;
      total_steps = t.total_steps + number_of_bool (nat_le 1 s.arrows);
      jumps = t.jumps + number_of_bool (nat_le 2 s.arrows);
      hands = t.hands + number_of_bool hand;
      mines = t.mines + s.mines;
      holds = t.holds + s.holds;
      rolls = t.rolls + s.rolls;
      lifts = t.lifts + s.lifts;
      fakes = t.fakes + s.fakes;
      holding = holding;
      keysounds = t.keysounds + s.keysounds;
      up_left = t.up_left + s.up_left;
      up_right = t.up_right + s.up_right;
    }

-- "A hand is a step whose arrows and the `holding` before it make 3 or more together. After a row `holding` is the larger of 0 and `holding` + the
-- row's heads − the row's tails." (a difference of ℕ stops at 0)
unfoldable pub tally_with_row : ArrowStats → RowSum → ArrowStats
tally_with_row t s =
    tally_with_sum t s
    (nat_le 1 s.arrows && nat_le 3 (s.arrows + t.holding))
    (t.holding + (s.holds + s.rolls) - s.tails)

-- a tally with rows more
abbrev pub tally_from : ArrowStats → List Row → ArrowStats
tally_from t [] = t
tally_from t (r ∷ rs) = tally_from (tally_with_row t (row_sum r)) rs

-- The plain tally of rows. "The rows are counted one after the other, from a tally of zeros."
unfoldable pub tally : List Row → ArrowStats
tally rows = tally_from empty_stats rows
