-- Two texts that differ only in lines of measure 1, two rows in the old one, a row and a comment in the new one. Before it stand a closed hold, a
-- tap and a head that is open where measure 1 begins, which the old text closes and the new one drops; after it a hold, whose rows shift by one.
-- The last measure meets the condition for the last beat.
use Rattle.std.specs.Prelude.{◌≡◌, refl, true, ◌&&◌, not, List, [], ◌∷◌, map, filter, ℕ, ◌==◌}
use Rattle.definitions.specs.Lines.{is_blank_byte, is_row_line, kind_of, line_kind}
use Rattle.definitions.specs.Cells.{cell_of}
use Rattle.definitions.specs.Measures.{chart}
use Rattle.definitions.specs.Reduction.{stride, reduce, minimised}
use Rattle.definitions.specs.Notes.{effect_at, notes}
use Rattle.definitions.specs.Entries.{figures_of_note}
use Rattle.definitions.specs.Examples.{bytes}
use Rattle.definitions.specs.Damage.{Differ, done, stay, out, earlier, later, stops, is_head, rows_above, open_in, open_at}

-- the old text
unfoldable pub old_text : List ℕ
old_text = bytes "2010|3002|,|1000|0003|,|0100|0200|0300|1000"

-- the new text
unfoldable pub new_text : List ℕ
new_text = bytes "2010|3002|,|000M|// more|,|0100|0200|0300|1000"

pub they_differ : Differ 4 1 old_text new_text
unfolding old_text new_text line_kind kind_of is_row_line is_blank_byte
they_differ =
    record {
      left = bytes "2010" ∷ bytes "3002" ∷ bytes "," ∷ bytes "," ∷ bytes "0100" ∷ bytes "0200" ∷ bytes "0300" ∷ bytes "1000" ∷ [];
      from_old = stay (stay (stay (out (record { standing = refl; inside = refl }) (out (record { standing = refl; inside = refl }) (stay (stay (stay (stay (stay done)))))))));
      from_new = stay (stay (stay (out (record { standing = refl; inside = refl }) (out (record { standing = refl; inside = refl }) (stay (stay (stay (stay (stay done)))))))));
    }

-- the head in row 1 and column 3
pub head-open : open_in (rows_above 4 1 old_text) 1 3 ≡ true
unfolding old_text chart minimised reduce stride line_kind kind_of is_row_line is_blank_byte stops is_head
head-open = refl

-- The notes that the parts of the theorem speak of: the earlier ones but for open heads', that of the open head, and the later ones; of each its row,
-- tail (4,294,967,295 for none), column and kind.
abbrev pub parts : List ℕ → List (List (List ℕ))
parts text =
    map figures_of_note (filter (λ x. not (open_at 4 1 text x)) (earlier 4 1 text))
    ∷ map figures_of_note (filter (λ x. x.row == 1 && x.column == 3) (notes 4 text))
    ∷ map figures_of_note (later 4 1 text)
    ∷ []

-- a hold from row 0 to 1 and a tap in row 0; closed in row 3, which is in measure 1; a tap, a hold from row 5 to 6, a tap
abbrev pub parts_of_old : List (List (List ℕ))
parts_of_old =
    ((0 ∷ 1 ∷ 0 ∷ 1 ∷ []) ∷ (0 ∷ 4294967295 ∷ 2 ∷ 0 ∷ []) ∷ [])
    ∷ ((1 ∷ 3 ∷ 3 ∷ 1 ∷ []) ∷ [])
    ∷ ((4 ∷ 4294967295 ∷ 1 ∷ 0 ∷ []) ∷ (5 ∷ 6 ∷ 1 ∷ 1 ∷ []) ∷ (7 ∷ 4294967295 ∷ 0 ∷ 0 ∷ []) ∷ [])
    ∷ []

-- the same; dropped; the same one row earlier
abbrev pub parts_of_new : List (List (List ℕ))
parts_of_new =
    ((0 ∷ 1 ∷ 0 ∷ 1 ∷ []) ∷ (0 ∷ 4294967295 ∷ 2 ∷ 0 ∷ []) ∷ [])
    ∷ []
    ∷ ((3 ∷ 4294967295 ∷ 1 ∷ 0 ∷ []) ∷ (4 ∷ 5 ∷ 1 ∷ 1 ∷ []) ∷ (6 ∷ 4294967295 ∷ 0 ∷ 0 ∷ []) ∷ [])
    ∷ []

pub old-parts : parts old_text ≡ parts_of_old
unfolding old_text notes chart minimised reduce stride line_kind kind_of is_row_line is_blank_byte effect_at cell_of stops is_head
old-parts = refl

pub new-parts : parts new_text ≡ parts_of_new
unfolding new_text notes chart minimised reduce stride line_kind kind_of is_row_line is_blank_byte effect_at cell_of stops is_head
new-parts = refl
