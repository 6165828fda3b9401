-- The count of a byte in a list, and the answer of a search in two parts.
use Rattle.std.specs.Prelude.{ℕ, List, Option, Some, None, ◌==◌, count_by}

-- how often b stands in a list
unfoldable pub count_of : ℕ → List ℕ → ℕ
count_of b l = count_by (λ x. x == b) l

-- what the first part has, else what the second has
abbrev pub or_else : Option ℕ → Option ℕ → Option ℕ
or_else (Some n) o = Some n
or_else None o = o
