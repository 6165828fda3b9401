-- Rows as they stand in a text, where minimising reads and writes them in place.
use Rattle.std.specs.Prelude.{◌≡◌, List, [], ◌∷◌, All, ℕ, zero, suc, ◌+◌, length, take, drop}
use Rattle.std.specs.List.{splice}
use Rattle.definitions.specs.Lists.{joined}
use Rattle.definitions.specs.Lines.{Row}
use Rattle.definitions.specs.Reduction.{at_multiples, stride, reduce}

-- the first L bytes at each of n places, w bytes apart: with w = L + 1 the rows of a text, each with byte 10 after it, with w = L rows back
-- to back, and with L = w all of the text, in blocks of w bytes
abbrev pub rows_at : ℕ → ℕ → ℕ → List ℕ → List Row
rows_at w L zero t = []
rows_at w L (suc n) t = take L t ∷ rows_at w L n (drop w t)

-- the rows that stand in a text from a place on, w bytes apart
abbrev pub rows_from : ℕ → ℕ → ℕ → ℕ → List ℕ → List Row
rows_from w L n start text = rows_at w L n (drop start text)

-- the rows of a measure that stands in a text from a place on, each with byte 10 after it
abbrev pub rows_of : ℕ → ℕ → List ℕ → ℕ → List Row
rows_of L rows text start = rows_at (L + 1) L rows (drop start text)

-- a text with other bytes from a place on
abbrev pub placed : ℕ → List ℕ → List ℕ → List ℕ
placed start bytes text = splice text start (start + length bytes) bytes

-- of n blocks of w bytes from start on, those at the multiples of s moved together; what stands past them stays
unfoldable pub compacted : ℕ → ℕ → ℕ → ℕ → List ℕ → List ℕ
compacted w n s start text = placed start (joined (at_multiples s 0 (rows_at w w n (drop start text)))) text

-- a text whose n rows of L bytes, w bytes apart from start on, are moved together by their stride
abbrev pub reduced_in : ℕ → ℕ → ℕ → ℕ → List ℕ → List ℕ
reduced_in w L n start text = compacted w n (stride (rows_from w L n start text)) start text

-- n rows of L bytes, written out by `form`, stand in the text from start on
pub record RowsStand (form : List Row → List ℕ) (L n start : ℕ) (rs : List Row) (text : List ℕ) : Type 0 where
  pub count : length rs ≡ n
  pub wide : All (λ r. length r ≡ L) rs
  pub bytes : take (length (form rs)) (drop start text) ≡ form rs

-- their minimised rows stand there, r of them, and the rest of the text is as it was
pub record Reduced (form : List Row → List ℕ) (start : ℕ) (rs : List Row) (before : List ℕ) (r : ℕ) (after : List ℕ) : Type 0 where
  pub count : r ≡ length (reduce rs)
  pub bytes : after ≡ placed start (form (reduce rs)) before

-- n rows that stand there are minimised: r stay
abbrev pub ReducesRows : (List Row → List ℕ) → ℕ → ℕ → ℕ → List ℕ → ℕ → List ℕ → Type 0
ReducesRows form L n start before r after = (rs : List Row) → RowsStand form L n start rs before → Reduced form start rs before r after
