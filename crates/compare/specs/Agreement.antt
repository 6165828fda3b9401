-- When what a call left is what is stored: the same numbers in the same places, floats by their bits.
use Rattle.std.specs.Prelude.{Bool, true, false, if◌then◌else◌, ◌&&◌, List, [], ◌∷◌, map, ℕ, zero, suc, ◌+◌, ◌/◌, ◌==◌, Float, length, slice_index}
use Rattle.std.specs.Float.{binary32}
use Rattle.std.specs.Float.Ieee.{is_nan, to_bits}
use Rattle.definitions.specs.Lists.{padded}
use Rattle.lines.specs.Words.{half_word_at, word_at}

-- true where two lists are equal, else false; proofs/Comparing.antt shows both
abbrev pub same : List ℕ → List ℕ → Bool
same [] [] = true
same [] (y ∷ ys) = false
same (x ∷ xs) [] = false
same (x ∷ xs) (y ∷ ys) = x == y && same xs ys

-- the slice has the answer and zeros after it
unfoldable pub has_answer : List ℕ → List ℕ → Bool
has_answer slice answer = same slice (padded 0 (length slice) answer)

-- the first n places have the same numbers
abbrev pub same_to : ℕ → List ℕ → List ℕ → Bool
same_to zero xs ys = true
same_to (suc n) xs ys = same_to n xs ys && slice_index xs n == slice_index ys n

-- there are 32 figures stored, and each place has the same one
unfoldable pub same_stored_figures : List ℕ → List ℕ → Bool
same_stored_figures figures answer = length answer == 32 && same_to 32 figures answer

-- k numbers, read at `at` and every `step` places after it
abbrev pub read_every : ℕ → (ℕ → ℕ) → ℕ → ℕ → List ℕ
read_every step read at zero = []
read_every step read at (suc k) = read at ∷ read_every step read (at + step) k

-- the numbers of four bytes that some bytes hold, low byte first, and those of eight
unfoldable pub numbers : List ℕ → List ℕ
numbers s = read_every 4 (half_word_at s) 0 (length s / 4)

unfoldable pub longs : List ℕ → List ℕ
longs s = read_every 8 (word_at s) 0 (length s / 8)

-- "Equal floats have equal bits." What is no number has a number that no four bytes hold.
unfoldable pub float_bits : Float → ℕ
float_bits x = if is_nan x then 4294967296 else to_bits binary32 x

unfoldable pub bits_of_floats : List Float → List ℕ
bits_of_floats l = map float_bits l
