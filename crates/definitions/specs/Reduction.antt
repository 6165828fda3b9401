-- Specification, Minimising: the stride and the rows that stay.
use Rattle.std.specs.Prelude.{Bool, true, if◌then◌else◌, ◌&&◌, ◌||◌, List, [], ◌∷◌, ◌++◌, map, ℕ, zero, suc, ◌^◌, ◌%◌, ◌==◌, length}
use Rattle.definitions.specs.Lists.{only_if}
use Rattle.definitions.specs.Lines.{Row}
use Rattle.definitions.specs.Measures.{chart}

-- "A row is all zero if its L bytes are all `0`."
abbrev pub all_zero : Row → Bool
all_zero [] = true
all_zero (b ∷ r) = b == 48 && all_zero r

-- i is a multiple of s
abbrev pub multiple : ℕ → ℕ → Bool
multiple s i = i % s == 0

-- of rows numbered from i: "off whose multiples every row is all zero"
abbrev pub off_zero : ℕ → ℕ → List Row → Bool
off_zero s i [] = true
off_zero s i (r ∷ rs) = (multiple s i || all_zero r) && off_zero s (suc i) rs

-- of rows numbered from i: "the rows at the multiples of the stride"
abbrev pub at_multiples : ℕ → ℕ → List Row → List Row
at_multiples s i [] = []
at_multiples s i (r ∷ rs) = only_if (multiple s i) (r ∷ []) ++ at_multiples s (suc i) rs

-- it "divides its row count and off whose multiples every row is all zero". "Rows are numbered from 0 in their measure."
abbrev pub allows : List Row → ℕ → Bool
allows rs s = multiple s (length rs) && off_zero s 0 rs

-- the largest power of two that they allow, with an exponent up to k; 1 is always allowed
abbrev pub largest : ℕ → List Row → ℕ
largest zero rs = 1
largest (suc k) rs = if allows rs (2 ^ suc k) then 2 ^ suc k else largest k rs

-- "The stride of a measure is the largest power of two that" they allow: none above 2 ^ (the row count) divides the row count, unless that is 0
unfoldable pub stride : List Row → ℕ
stride rs = largest (length rs) rs

-- "The minimised rows are the rows at the multiples of the stride. A measure without rows has no minimised rows."
unfoldable pub reduce : List Row → List Row
reduce rs = at_multiples (stride rs) 0 rs

-- the minimised rows of each measure
unfoldable pub minimised : ℕ → List ℕ → List (List Row)
minimised L text = map reduce (chart L text)
