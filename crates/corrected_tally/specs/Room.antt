-- What the recount asks for.
use Rattle.std.specs.Prelude.{List, ℕ, ◌≤◌, length}
use Rattle.definitions.specs.Sizes.{row_numbers_bound}
use Rattle.definitions.specs.ReadBack.{rows_read_back}

-- The work slice has an entry for each row that is read back out of the text.
pub record Room (L : ℕ) (text work : List ℕ) : Type 0 where
  pub short : length text ≤ row_numbers_bound
  pub room : length (rows_read_back L text) ≤ length work
