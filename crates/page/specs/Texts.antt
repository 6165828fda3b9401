-- Texts that are printed: numbers in decimal, in columns, and one after the other.
use Rattle.std.specs.Prelude.{List, [], ◌∷◌, ◌++◌, ℕ, zero, suc, ◌-◌, length, replicate, decimal}

-- "All numbers are decimal": a number with a byte after it, 32 within a line, 10 at its end
unfoldable pub number_field : ℕ → ℕ → List ℕ
number_field n after = decimal n ++ (after ∷ [])

-- a number right-aligned in so many columns; one that has more digits is written whole
unfoldable pub aligned : ℕ → ℕ → List ℕ
aligned width n = replicate (width - length (decimal n)) 32 ++ decimal n

-- a text with as many blanks after it as its columns have left
unfoldable pub aligned_left : ℕ → List ℕ → List ℕ
aligned_left width text = text ++ replicate (width - length text) 32

-- what f gives for 0 to n - 1, one after the other
abbrev pub listed : (ℕ → List ℕ) → ℕ → List ℕ
listed f zero = []
listed f (suc k) = listed f k ++ f k
