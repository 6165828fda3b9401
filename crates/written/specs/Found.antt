-- What a walk over the records has found.
use Rattle.std.specs.Prelude.{◌≡◌, true, not, List, ℕ, replicate}
use Rattle.definitions.specs.Written.{notes_in, out_of_order, some_meet, some_past}
use Rattle.written.specs.declared.checks.Walked.{Walked}

-- before the first note
pub record FirstWalked (w : Walked) : Type 0 where
  pub row : w.order.row ≡ 0
  pub column : w.order.column ≡ 0
  pub kept : w.order.kept ≡ true
  pub free : w.free ≡ replicate 10 0
  pub apart : w.apart ≡ true
  pub within : w.within ≡ true

-- of all records s, which keep the limits: whether 13 lets them pass, if it does, whether 14 does, and whether no row is t or past it
pub record Found (L t : ℕ) (s : List ℕ) (w : Walked) : Type 0 where
  pub in_order : out_of_order L (notes_in s) ≡ not w.order.kept
  pub apart : w.order.kept ≡ true → some_meet (notes_in s) ≡ not w.apart
  pub within : some_past t (notes_in s) ≡ not w.within
