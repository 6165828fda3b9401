-- Specification, Minimised text and Density and spacing. Each is a function of the measures' minimised rows.
use Rattle.std.specs.Prelude.{Bool, true, false, ◌&&◌, ◌||◌, List, [], ◌∷◌, ◌++◌, map, ℕ, count_by}
use Rattle.definitions.specs.Lists.{number_of_bool}
use Rattle.definitions.specs.Lines.{Row}
use Rattle.definitions.specs.Cells.{cell_of, is_arrow}
use Rattle.definitions.specs.Reduction.{minimised}

-- "Each minimised row is written, and byte 10 after it."
abbrev pub row_text : List Row → List ℕ
row_text [] = []
row_text (r ∷ rs) = r ++ (10 ∷ row_text rs)

-- "Between two measures stand the bytes `,` and 10." "A measure without rows writes no row, and the `;` is never written."
abbrev pub text_of : List (List Row) → List ℕ
text_of [] = []
text_of (m ∷ []) = row_text m
text_of (m ∷ m' ∷ ms) = row_text m ++ (44 ∷ 10 ∷ text_of (m' ∷ ms))

-- the minimised text of a text
unfoldable pub minimised_text : ℕ → List ℕ → List ℕ
minimised_text L text = text_of (minimised L text)

-- "A step is a row with an arrow."
unfoldable pub is_step : Row → Bool
is_step [] = false
is_step (b ∷ r) = is_arrow (cell_of b) || is_step r

-- "The density of a measure is how many of its minimised rows are steps."
abbrev pub density : List Row → ℕ
density rs = count_by is_step rs

-- "The spacing of a measure is true where each of its minimised rows is a step, so also where it has none."
abbrev pub spacing : List Row → Bool
spacing [] = true
spacing (r ∷ rs) = is_step r && spacing rs

-- of a text, "the density of each measure"
unfoldable pub densities : ℕ → List ℕ → List ℕ
densities L text = map density (minimised L text)

-- of a text, "1 for each measure whose spacing is true, else 0"
unfoldable pub spacings : ℕ → List ℕ → List ℕ
spacings L text = map (λ (m : List Row). number_of_bool (spacing m)) (minimised L text)
