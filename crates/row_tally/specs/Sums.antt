-- What one cell adds to its row's sum: cited by private functions alone.
use Rattle.std.specs.Prelude.{Bool, true, false, ◌&&◌, ℕ, ◌+◌, ◌==◌}
use Rattle.definitions.specs.Lists.{number_of_bool}
use Rattle.definitions.specs.Cells.{is_arrow, CountKind, hold, roll, tail, mine, lift, fake, keysound}
use Rattle.definitions.specs.Tally.{counted_as, place}
use Rattle.definitions.specs.Judged.{is_judged_arrow}
use Rattle.definitions.specs.declared.Cell.{Cell}
use Rattle.definitions.specs.declared.RowSum.{RowSum}

-- with so many arrows more, of each direction so many, and of each kind that is counted so many
abbrev pub add_counts : RowSum → ℕ → (ℕ → ℕ) → (CountKind → ℕ) → RowSum
add_counts s arrows towards of =
    record {
      arrows = s.arrows + arrows;
      left = s.left + towards 0;
      down = s.down + towards 1;
      up = s.up + towards 2;
      right = s.right + towards 3;
      holds = s.holds + of hold;
      rolls = s.rolls + of roll;
      tails = s.tails + of tail;
      mines = s.mines + of mine;
      lifts = s.lifts + of lift;
      fakes = s.fakes + of fake;
      keysounds = s.keysounds + of keysound;
      up_left = s.up_left + towards 4;
      up_right = s.up_right + towards 5;
    }

abbrev one_of : CountKind → Cell → ℕ
one_of k x = number_of_bool (place (counted_as x) == place k)

-- with a cell in a column of direction d, which is an arrow or not
unfoldable pub sum_with_cell : RowSum → ℕ → Cell → Bool → RowSum
sum_with_cell s d x arrow = add_counts s (number_of_bool arrow) (λ e. number_of_bool (arrow && d == e)) (λ k. one_of k x)

-- the arrows of a judged row, or of a plain one
abbrev pub arrow_of : Bool → Cell → Bool
arrow_of true x = is_judged_arrow x
arrow_of false x = is_arrow x

-- with a cell of a judged row, or of a plain one
abbrev pub add_by : Bool → RowSum → ℕ → Cell → RowSum
add_by judged s d x = sum_with_cell s d x (arrow_of judged x)
