-- Specification, Measures: the measures of a text, each a list of rows.
use Rattle.std.specs.Prelude.{List, [], ◌∷◌, ℕ}
use Rattle.std.specs.List.{onto_first}
use Rattle.definitions.specs.Lines.{Row, cut, line_kind, line_row}
use Rattle.definitions.specs.declared.LineKind.{LineKind}
use Rattle.definitions.specs.declared.LineKind.TheVariants as kind

-- What a line with row r makes of the measures of the lines after it, of which the first is the one that the line stands in. "The rows before the
-- first line that ends a measure are those of measure 0, and each `,` line begins the next measure. Nothing after a `;` line is read."
abbrev pub add_line : LineKind → Row → List (List Row) → List (List Row)
add_line kind.Passed r ms = ms
add_line kind.Comma r ms = [] ∷ ms
add_line kind.Semi r ms = [] ∷ []
add_line kind.Row r ms = onto_first r ms

-- The measures of some lines. "A text without a `;` line ends its last measure at its end."
abbrev pub measures : ℕ → List (List ℕ) → List (List Row)
measures L [] = [] ∷ []
measures L (l ∷ ls) = add_line (line_kind L l) (line_row L l) (measures L ls)

-- The measures of a text at L lanes, before minimising. "So a chart has as many measures as `,` lines before its end and one more, and some of them
-- may have no rows."
unfoldable pub chart : ℕ → List ℕ → List (List Row)
chart L text = measures L (cut text)
