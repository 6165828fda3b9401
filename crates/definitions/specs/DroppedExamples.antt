-- Examples of the list of dropped heads as one table with a single claim, `dropped-examples-hold`. In a text `|` is byte 10.
use Rattle.std.specs.Prelude.{◌≡◌, refl, List, [], ◌∷◌, map, ℕ}
use Prim.Native.String.{String}
use Rattle.definitions.specs.Lists.{joined}
use Rattle.definitions.specs.Lines.{is_blank_byte, is_row_line, kind_of, line_kind}
use Rattle.definitions.specs.Cells.{cell_of}
use Rattle.definitions.specs.Measures.{chart}
use Rattle.definitions.specs.Reduction.{stride, reduce, minimised}
use Rattle.definitions.specs.Notes.{effect_at}
use Rattle.definitions.specs.Dropped.{dropped_heads, number_of_dropper, number_of_cause}
use Rattle.definitions.specs.declared.DroppedHead.{DroppedHead}
use Rattle.definitions.specs.Examples.{bytes}

-- a text at 4 lanes, and of each listed head its row, the row that dropped it, its column and the reason
pub record Example : Type 0 where
  pub given : String
  pub list : List ℕ

-- the fields of its record
abbrev pub told : DroppedHead → List ℕ
told d = d.row ∷ number_of_dropper d.cause ∷ d.column ∷ number_of_cause d.cause ∷ []

-- those of each head that the definitions list
unfoldable pub told_of : Example → List ℕ
told_of e = joined (map told (dropped_heads 4 (bytes e.given)))

-- that text has this list
abbrev pub lists : String → List ℕ → Example
lists s l = record { given = s; list = l }

unfoldable pub table : List Example
table =
    -- "A 3 closes the head, and it is a note", "K and the empty cells tell nothing, and neither does another column."
    lists "2000|K000|x000|3000" []
    -- "0 a 2 or 4"
    ∷ lists "2000|4000|3000" (0 ∷ 1 ∷ 0 ∷ 0 ∷ [])
    -- "1 any of 1 M L F m l f"
    ∷ lists "2000|1000|3000" (0 ∷ 1 ∷ 0 ∷ 1 ∷ [])
    ∷ lists "4000|m000|3000" (0 ∷ 1 ∷ 0 ∷ 1 ∷ [])
    -- "2 the chart's end"
    ∷ lists "4000|,0000" (0 ∷ 4294967295 ∷ 0 ∷ 2 ∷ [])
    -- rows are numbered through the minimised rows of all measures
    ∷ lists "1000|0000|,|2000|0000|1000|0000" (1 ∷ 2 ∷ 0 ∷ 1 ∷ [])
    -- "in rising row, and in a row in rising column": by where the head stands, whenever it is dropped
    ∷ lists "2002|0100|0001" (0 ∷ 4294967295 ∷ 0 ∷ 2 ∷ 0 ∷ 2 ∷ 3 ∷ 1 ∷ [])
    ∷ []

pub dropped-examples-hold : map told_of table ≡ map (λ (e : Example). e.list) table
unfolding table told_of dropped_heads effect_at minimised reduce stride chart line_kind kind_of is_row_line is_blank_byte cell_of
dropped-examples-hold = refl
