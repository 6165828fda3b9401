-- Words on lists that the other files use.
use Rattle.std.specs.Prelude.{Bool, true, false, if◌then◌else◌, ◌&&◌, ◌||◌, List, [], ◌∷◌, ◌++◌, ℕ, zero, suc, ◌+◌, ◌-◌, ◌==◌, nat_lt, length, take, drop, replicate}

-- 1 where the test holds, else 0
abbrev pub number_of_bool : Bool → ℕ
number_of_bool true = 1
number_of_bool false = 0

-- a place stands before another by row, then column
abbrev pub before : ℕ → ℕ → ℕ → ℕ → Bool
before i c j d = nat_lt i j || (i == j && nat_lt c d)

module _ {A : Type 0} where
  -- each stands before the next, by the row and the column that each has
  abbrev pub rises : (A → ℕ) → (A → ℕ) → List A → Bool
  rises row column [] = true
  rises row column (x ∷ []) = true
  rises row column (x ∷ y ∷ l) = before (row x) (column x) (row y) (column y) && rises row column (y ∷ l)

  -- the lists one after the other
  abbrev pub joined : List (List A) → List A
  joined [] = []
  joined (l ∷ ls) = l ++ joined ls

  -- l where the test holds, else nothing
  abbrev pub only_if : Bool → List A → List A
  only_if true l = l
  only_if false l = []

  -- the answer, and z in every place after it, n in all
  abbrev pub padded : A → ℕ → List A → List A
  padded z n l = l ++ replicate (n - length l) z

-- one of the first n columns passes a test
abbrev pub some_column : ℕ → (ℕ → Bool) → Bool
some_column zero p = false
some_column (suc n) p = some_column n p || p n

-- a number summed over the first n columns
abbrev pub sum_columns : ℕ → (ℕ → ℕ) → ℕ
sum_columns zero f = 0
sum_columns (suc n) f = sum_columns n f + f n

-- a byte is among these
abbrev pub among : ℕ → List ℕ → Bool
among b [] = false
among b (x ∷ xs) = b == x || among b xs

-- a list up to the first b in it, or all of it
unfoldable pub up_to : ℕ → List ℕ → List ℕ
up_to b [] = []
up_to b (x ∷ s) = if x == b then [] else x ∷ up_to b s

-- a list through the first b in it, or all of it
unfoldable pub through : ℕ → List ℕ → List ℕ
through b s = take (suc (length (up_to b s))) s

-- what follows the first b in a list, nothing where it has none
unfoldable pub after : ℕ → List ℕ → List ℕ
after b s = drop (suc (length (up_to b s))) s

-- what follows the first n of them
abbrev pub after_each : ℕ → ℕ → List ℕ → List ℕ
after_each b zero s = s
after_each b (suc n) s = after_each b n (after b s)
