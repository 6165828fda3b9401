-- A tally in which the cells of all rows are counted first, and the ends of the rows then.
use Rattle.std.specs.Prelude.{List, [], ◌∷◌, ℕ, suc}
use Rattle.definitions.specs.Lines.{Row}
use Rattle.definitions.specs.declared.RowSum.{RowSum}
use Rattle.definitions.specs.declared.ArrowStats.{ArrowStats}
use Rattle.row_tally.specs.Raised.{with_cells}

-- The tally t with the cells of rows numbered from i, where S says what the cells of each row add up to.
abbrev pub cells_from : (ℕ → Row → RowSum) → ArrowStats → ℕ → List Row → ArrowStats
cells_from S t i [] = t
cells_from S t i (r ∷ rs) = cells_from S (with_cells t (S i r)) (suc i) rs
