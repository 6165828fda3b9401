-- What the cells of a row add up to before a column.
use Rattle.std.specs.Prelude.{Bool, ℕ, zero, suc, length, slice_index}
use Rattle.definitions.specs.Lines.{Row}
use Rattle.definitions.specs.Cells.{cell_of}
use Rattle.definitions.specs.Tally.{direction, empty_sum}
use Rattle.definitions.specs.declared.RowSum.{RowSum}
use Rattle.row_tally.specs.Sums.{add_by}

-- the first i cells of a row, of a judged one or of a plain one
abbrev pub sum_before : Bool → Row → ℕ → RowSum
sum_before judged r zero = empty_sum
sum_before judged r (suc i) = add_by judged (sum_before judged r i) (direction (length r) i) (cell_of (slice_index r i))
