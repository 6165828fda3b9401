-- Specification, Minimising, in the handier form, by halving. `reduce-halved` in proofs/Reduction.antt proves that it gives the rows that the stride
-- gives.
use Rattle.std.specs.Prelude.{◌≡◌, Bool, true, false, ◌&&◌, if◌then◌else◌, List, [], ◌∷◌, ℕ, zero, suc, length}
use Rattle.definitions.specs.Lines.{Row}
use Rattle.definitions.specs.Reduction.{all_zero, reduce}

-- every other row, from the first on: those at even places
abbrev pub evens : List Row → List Row
evens [] = []
evens (r ∷ []) = r ∷ []
evens (r ∷ r' ∷ rs) = r ∷ evens rs

-- the rows are even in number, and every other row, from the second on, is all zero
abbrev pub halvable : List Row → Bool
halvable [] = true
halvable (r ∷ []) = false
halvable (r ∷ r' ∷ rs) = all_zero r' && halvable rs

-- rows halved, at most so many times: "while the rows are even in number and those at odd places all zero, these go"
abbrev pub halved : ℕ → List Row → List Row
halved zero rs = rs
halved (suc k) rs = if halvable rs then halved k (evens rs) else rs

-- of any rows: "The same rows are left by halving"
unfoldable pub ReduceHalved : Type 0
ReduceHalved = (rs : List Row) → reduce rs ≡ halved (length rs) rs
