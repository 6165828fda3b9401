-- What the checks of all records let pass.
use Rattle.std.specs.Prelude.{◌≡◌, Bool, false, ◌&&◌, ◌||◌, ◌==◌, nat_lt, nat_le, List, ℕ}
use Rattle.definitions.specs.Written.{uneven_records, broken_records}
use Rattle.definitions.specs.declared.Note.{Note}

-- 7 and 8 let these records pass
pub record Limited (s : List ℕ) : Type 0 where
  pub whole : uneven_records s ≡ false
  pub limits : broken_records s ≡ false

-- a note stands at that row and column or past it
abbrev pub from_place : ℕ → ℕ → Note → Bool
from_place i c n = nat_lt i n.row || (i == n.row && nat_le c n.column)
