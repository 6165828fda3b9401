-- Specification, Rows read back and Correction: the rows that `parse_minimized_rows` reads, and the tallies of the main and the kept-row pass.
use Rattle.std.specs.Prelude.{◌≡◌, Bool, false, if◌then◌else◌, ◌&&◌, not, List, [], ◌∷◌, ◌++◌, ℕ, ◌==◌, ◌≤◌, take}
use Rattle.definitions.specs.Lists.{among, joined, only_if}
use Rattle.definitions.specs.Lines.{Row, cut, is_row_line}
use Rattle.definitions.specs.Reduction.{minimised}
use Rattle.definitions.specs.Figures.{minimised_text}
use Rattle.definitions.specs.Correction.{corrected}
use Rattle.definitions.specs.declared.ArrowStats.{ArrowStats}

-- "One byte 13 at a line's end is dropped." (`trim_cr`)
abbrev pub without_cr : List ℕ → List ℕ
without_cr [] = []
without_cr (b ∷ []) = if b == 13 then [] else b ∷ []
without_cr (b ∷ b' ∷ s) = b ∷ without_cr (b' ∷ s)

-- "begin with `,` or `;`"
abbrev pub begins_mark : List ℕ → Bool
begins_mark [] = false
begins_mark (b ∷ s) = among b (44 ∷ 59 ∷ [])

-- "A line that then has at least L bytes, and no byte 13 among its first L, and does not begin with `,` or `;` is a row, its first L bytes, and any
-- other line is none. No blanks are taken off, a `/` is a byte like others, and what follows a `;` line is read."
abbrev pub back_row : ℕ → List ℕ → List Row
back_row L l = only_if (is_row_line L l && not (begins_mark l)) (take L l ∷ [])

-- the rows of lines
abbrev pub back_rows : ℕ → List (List ℕ) → List Row
back_rows L [] = []
back_rows L (l ∷ ls) = back_row L (without_cr l) ++ back_rows L ls

-- "The text is cut at each byte 10."
unfoldable pub rows_read_back : ℕ → List ℕ → List Row
rows_read_back L text = back_rows L (cut text)

-- "The main tally is counted anew over the minimised text, read back."
unfoldable pub main_tally : ℕ → List ℕ → ArrowStats
main_tally L text = corrected L (joined (minimised L text)) (rows_read_back L (minimised_text L text))

-- "The kept tally is counted anew over the minimised rows themselves."
unfoldable pub kept_tally : ℕ → List ℕ → ArrowStats
kept_tally L text = corrected L (joined (minimised L text)) (joined (minimised L text))

-- "So the rows of a chart's minimised text, read back, are its minimised rows."
unfoldable pub OwnRows : Type 0
OwnRows = (L : ℕ) (text : List ℕ) → 1 ≤ L → rows_read_back L (minimised_text L text) ≡ joined (minimised L text)

-- "The two are the same for every text."
unfoldable pub MainKeptAgree : Type 0
MainKeptAgree = (L : ℕ) (text : List ℕ) → main_tally L text ≡ kept_tally L text
