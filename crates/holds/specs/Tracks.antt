-- What rows leave open, which pairs end at a row, and which heads of a row are paired.
use Rattle.std.specs.Prelude.{Bool, ◌&&◌, List, [], ◌∷◌, ℕ, suc, ◌==◌, count_by}
use Rattle.definitions.specs.Lists.{number_of_bool, sum_columns}
use Rattle.definitions.specs.Lines.{Row}
use Rattle.definitions.specs.Cells.{byte_at}
use Rattle.definitions.specs.Tracker.{Pair, next_stack, hold_at, pairs, is_head_of}

-- The open heads of column c after rows numbered from i, with the open heads st before them.
abbrev pub stack_from : ℕ → ℕ → List ℕ → List Row → List ℕ
stack_from c i st [] = st
stack_from c i st (r ∷ rs) = stack_from c (suc i) (next_stack (hold_at (byte_at c r)) i st) rs

unfoldable pub stack_after : List Row → ℕ → List ℕ
stack_after rows c = stack_from c 0 [] rows

-- The pairs whose tail is at row i and whose head is on a row that J calls judged.
abbrev pub ends_in : (ℕ → Bool) → ℕ → List Pair → ℕ
ends_in J i ps = count_by (λ (p : Pair). p.tail == i && J p.head) ps

unfoldable pub ends_at : (ℕ → Bool) → List Row → ℕ → ℕ
ends_at J rows i = sum_columns 10 (λ c. ends_in J i (pairs rows c))

-- The paired heads of row i, in the first L columns.
abbrev pub paired_heads : ℕ → (ℕ → List Pair) → ℕ → ℕ
paired_heads L ps i = sum_columns L (λ c. number_of_bool (is_head_of i (ps c)))
