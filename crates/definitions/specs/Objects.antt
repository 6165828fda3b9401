-- Specification, Last beat: the object rows, the last of them, and its beat.
use Rattle.std.specs.Prelude.{Bool, true, false, ◌||◌, List, [], ◌∷◌, ◌++◌, ℕ, suc, ◌-◌, nat_lt, length, Float}
use Rattle.std.specs.Prelude.{Option, None, Some}
use Rattle.definitions.specs.Lists.{only_if}
use Rattle.definitions.specs.Lines.{Row}
use Rattle.definitions.specs.Cells.{cell_of, byte_at, object_effect}
use Rattle.definitions.specs.Reduction.{minimised}
use Rattle.definitions.specs.Beats.{last_row, row_to_beat}
use Rattle.definitions.specs.declared.DepthEffect.{DepthEffect}
use Rattle.definitions.specs.declared.DepthEffect.TheVariants.{Nothing, Blocks, Opens, Closes}

-- "The depth rises by one at 2 and 4, falls by one at 3 but not below 0, and becomes 0 at 1, M, L, F and K."
abbrev pub deeper : DepthEffect → ℕ → ℕ
deeper Nothing d = d
deeper Blocks d = 0
deeper Opens d = suc d
deeper Closes d = d - 1

-- "it has a 1, M, L, F or K, or a 3 in a column whose depth before it is over 0"
abbrev pub is_object : DepthEffect → ℕ → Bool
is_object Nothing d = false
is_object Blocks d = true
is_object Opens d = false
is_object Closes d = nat_lt 0 d

-- the effect of a byte
unfoldable pub object_at : ℕ → DepthEffect
object_at b = object_effect (cell_of b)

-- The depth of each column.
abbrev pub Depths : Type 0
Depths = ℕ → ℕ

-- the depths after a row
abbrev pub after_row : Depths → Row → Depths
after_row D r = λ c. deeper (object_at (byte_at c r)) (D c)

-- the depths after rows
abbrev pub after_rows : Depths → List Row → Depths
after_rows D [] = D
after_rows D (r ∷ rs) = after_rows (after_row D r) rs

-- a row, from column c on, is an object row
abbrev pub object_from : Depths → ℕ → Row → Bool
object_from D c [] = false
object_from D c (b ∷ r) = is_object (object_at b) (D c) || object_from D (suc c) r

-- "A minimised row is an object row if" one of its cells is such, where the depths before it are D
abbrev pub object_row : Depths → Row → Bool
object_row D r = object_from D 0 r

-- A row's place: "row r of the n minimised rows of measure m".
pub record Place : Type 0 where
  pub m : ℕ
  pub r : ℕ
  pub n : ℕ

-- the object rows among those rows of measure m, with n rows in all, that are numbered from r
abbrev pub objects_in : Depths → ℕ → ℕ → ℕ → List Row → List Place
objects_in D m r n [] = []
objects_in D m r n (x ∷ xs) =
    only_if (object_row D x) (record { m = m; r = r; n = n } ∷ []) ++ objects_in (after_row D x) m (suc r) n xs

-- the object rows of measures numbered from m
abbrev pub objects_from : Depths → ℕ → List (List Row) → List Place
objects_from D m [] = []
objects_from D m (x ∷ xs) = objects_in D m 0 (length x) x ++ objects_from (after_rows D x) (suc m) xs

-- the last of some places
abbrev pub last_of : List Place → Option Place
last_of [] = None
last_of (p ∷ []) = Some p
last_of (p ∷ q ∷ ps) = last_of (q ∷ ps)

-- "the last object row", if there is one. "Each column has a depth, 0 before the chart's first row, which goes on from measure to measure."
unfoldable pub last_object : ℕ → List ℕ → Option Place
last_object L text = last_of (objects_from (λ c. 0) 0 (minimised L text))

-- The last beat in 48ths. "Without an object row both are 0, and the float is +0."
abbrev pub place48 : Option Place → ℕ
place48 None = 0
place48 (Some p) = last_row p.m p.r p.n

-- of a text, "the last beat in 48ths"
unfoldable pub last48 : ℕ → List ℕ → ℕ
last48 L text = place48 (last_object L text)

-- The last beat as a 64-bit float.
unfoldable pub last_beat_of : ℕ → List ℕ → Float
last_beat_of L text = row_to_beat (last48 L text)
