-- How rows are written: as the lines of minimised text, or back to back.
use Rattle.std.specs.Prelude.{Bool, true, if◌then◌else◌, List, [], ◌∷◌, ◌++◌, map, ℕ, ◌+◌, length}
use Rattle.definitions.specs.Lists.{joined}
use Rattle.definitions.specs.Lines.{Row}
use Rattle.definitions.specs.Figures.{row_text, text_of}
use Rattle.measures.specs.declared.RowForm.{RowForm}
use Rattle.measures.specs.declared.RowForm.TheVariants as form

-- what stands after each row
abbrev pub row_end : RowForm → List ℕ
row_end form.Lines = 10 ∷ []
row_end form.BackToBack = []

-- how many bytes a row of L cells takes
abbrev pub row_width : RowForm → ℕ → ℕ
row_width f L = L + length (row_end f)

-- what stands after a measure that a `,` line ends, or no line does
abbrev pub measure_end : RowForm → Bool → List ℕ
measure_end form.Lines comma = if comma then 44 ∷ 10 ∷ [] else []
measure_end form.BackToBack comma = []

-- the rows of a measure as they are written
abbrev pub written : RowForm → List Row → List ℕ
written form.Lines rs = row_text rs
written form.BackToBack rs = joined rs

-- measures as they are written
abbrev pub all_written : RowForm → List (List Row) → List ℕ
all_written form.Lines ms = text_of ms
all_written form.BackToBack ms = joined (joined ms)

-- and where a `,` line ends each
abbrev pub ended : RowForm → List (List Row) → List ℕ
ended f ms = joined (map (λ (m : List Row). written f m ++ measure_end f true) ms)

-- what stands of the measures that were read, where the last of all is among them or not
abbrev pub so_far : RowForm → Bool → List (List Row) → List ℕ
so_far f over ms = if over then all_written f ms else ended f ms
