-- Specification, Hold tracker: column by column, the open heads and the pairs.
use Rattle.std.specs.Prelude.{Bool, false, if◌then◌else◌, ◌||◌, List, [], ◌∷◌, ◌++◌, ℕ, suc, ◌==◌, nat_lt, length}
use Rattle.definitions.specs.Lines.{Row}
use Rattle.definitions.specs.Cells.{cell_of, byte_at, hold_effect}
use Rattle.definitions.specs.declared.DepthEffect.{DepthEffect}
use Rattle.definitions.specs.declared.DepthEffect.TheVariants.{Nothing, Blocks, Opens, Closes}

-- A head and the tail that it is paired with, by their rows.
pub record Pair : Type 0 where
  pub head : ℕ
  pub tail : ℕ

-- The open heads of a column, newest first, after what a cell at row i does. "A 2 or 4 goes on the stack of its column as its newest head, but not
-- where 8 are open." "A 1, M, L or F empties the stack of its column, and any other cell leaves it as it is."
abbrev pub next_stack : DepthEffect → ℕ → List ℕ → List ℕ
next_stack Nothing i st = st
next_stack Blocks i st = []
next_stack Opens i st = if nat_lt (length st) 8 then i ∷ st else st
next_stack Closes i [] = []
next_stack Closes i (h ∷ st) = st

-- The pair that it makes. "A 3 is paired with the newest head of its column, which leaves the stack; where none is open it is paired with none."
abbrev pub paired : DepthEffect → ℕ → List ℕ → List Pair
paired Nothing i st = []
paired Blocks i st = []
paired Opens i st = []
paired Closes i [] = []
paired Closes i (h ∷ st) = record { head = h; tail = i } ∷ []

-- the effect of a byte
unfoldable pub hold_at : ℕ → DepthEffect
hold_at b = hold_effect (cell_of b)

-- the pairs of column c over rows numbered from i, with the open heads st
abbrev pub pairs_from : ℕ → ℕ → List ℕ → List Row → List Pair
pairs_from c i st [] = []
pairs_from c i st (r ∷ rs) =
    paired (hold_at (byte_at c r)) i st ++ pairs_from c (suc i) (next_stack (hold_at (byte_at c r)) i st) rs

-- The pairs of each column. "Each column has a stack of open heads, at most 8."
unfoldable pub pairs : List Row → ℕ → List Pair
pairs rows c = pairs_from c 0 [] rows

-- row i is the head of one of the pairs: "A paired head is one with which a 3 is paired."
abbrev pub is_head_of : ℕ → List Pair → Bool
is_head_of i [] = false
is_head_of i (p ∷ ps) = i == p.head || is_head_of i ps
