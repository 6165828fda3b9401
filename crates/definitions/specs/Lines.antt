-- Specification, Lines: the lines of a text, and what a line is.
use Rattle.std.specs.Prelude.{Bool, if◌then◌else◌, ◌&&◌, not, List, [], ◌∷◌, ℕ, ◌==◌, nat_le, length, take}
use Rattle.std.specs.List.{slice_split}
use Rattle.definitions.specs.Lists.{among}
use Rattle.definitions.specs.declared.LineKind.{LineKind}
use Rattle.definitions.specs.declared.LineKind.TheVariants as kind

-- "is a row, its first L bytes": the list of these.
abbrev pub Row : Type 0
Row = List ℕ

-- The lines of a text: "A text is cut at each byte 10, which belongs to no line. An empty text has one line, which is empty."
abbrev pub cut : List ℕ → List (List ℕ)
cut text = slice_split (λ b. b == 10) text

-- "The blanks are the bytes 9, 10, 12, 13 and 32."
unfoldable pub is_blank_byte : ℕ → Bool
is_blank_byte b = among b (9 ∷ 10 ∷ 12 ∷ 13 ∷ 32 ∷ [])

-- "A line is read without the blanks at its start."
abbrev pub trim : List ℕ → List ℕ
trim [] = []
trim (b ∷ s) = if is_blank_byte b then trim s else b ∷ s

-- "has at least L bytes, and no byte 13 among its first L": the row test, of a line that is nothing else. "So a line that ends with bytes 13 and 10
-- is a row only where L bytes stand before the 13."
unfoldable pub is_row_line : ℕ → List ℕ → Bool
is_row_line L l = nat_le L (length l) && not (among 13 (take L l))

-- What a line is whose leading blanks are off. "What a line is goes by what is left of it, by the first of these that fits." Nothing is left, or it
-- "begins with `/`": it "is passed over"; it "begins with `,`": it "ends a measure, and what follows the `,` is ignored"; it "begins with `;`": it
-- "ends the last measure and the reading"; it "has at least L bytes, and no byte 13 among its first L": it "is a row, its first L bytes"; it "is any
-- other": it "is passed over". "`/`, `,` and `;` mean this as the first byte alone; elsewhere they are bytes of a row, or stand past its end." (47 is
-- `/`, 44 `,` and 59 `;`.)
unfoldable pub kind_of : ℕ → List ℕ → LineKind
kind_of L [] = kind.Passed
kind_of L (b ∷ s) =
    if b == 47 then kind.Passed
    else if b == 44 then kind.Comma
    else if b == 59 then kind.Semi
    else if is_row_line L (b ∷ s) then kind.Row else kind.Passed

-- the kind of a line, and its row where it is one
unfoldable pub line_kind : ℕ → List ℕ → LineKind
line_kind L l = kind_of L (trim l)

-- a line's row: "its first L bytes"
abbrev pub line_row : ℕ → List ℕ → Row
line_row L l = take L (trim l)
