-- A text as its reader meets it: the rows and the ends of measures, one after the other, and what has been read when some of them have come.
use Rattle.std.specs.Prelude.{◌≡◌, Option, Some, None, List, [], ◌∷◌, ◌++◌, ℕ, ◌+◌, length, fold}
use Rattle.std.specs.List.{onto_first}
use Rattle.definitions.specs.Lines.{Row, cut, line_kind, line_row}
use Rattle.definitions.specs.declared.LineKind.{LineKind}
use Rattle.definitions.specs.declared.LineKind.TheVariants as kind

-- What a line puts before the marks of the lines after it: its row, or `None` where it ends a measure. Nothing is read past a `;`.
abbrev pub add_mark : LineKind → Row → List (Option Row) → List (Option Row)
add_mark kind.Passed r ms = ms
add_mark kind.Comma r ms = None ∷ ms
add_mark kind.Semi r ms = []
add_mark kind.Row r ms = Some r ∷ ms

-- the marks of some lines
abbrev pub marks : ℕ → List (List ℕ) → List (Option Row)
marks L [] = []
marks L (l ∷ ls) = add_mark (line_kind L l) (line_row L l) (marks L ls)

-- the marks of a text
unfoldable pub chart_marks : ℕ → List ℕ → List (Option Row)
chart_marks L text = marks L (cut text)

-- the measures of some marks
abbrev pub measures_of : List (Option Row) → List (List Row)
measures_of [] = [] ∷ []
measures_of (None ∷ ms) = [] ∷ measures_of ms
measures_of (Some r ∷ ms) = onto_first r (measures_of ms)

-- a row has L bytes
abbrev pub wide : ℕ → Option Row → Type 0
wide L None = Unit {0}
wide L (Some r) = length r ≡ L

-- how many bytes a mark takes in a text at least, with its newline
abbrev pub bytes_of : ℕ → Option Row → ℕ
bytes_of L None = 2
bytes_of L (Some r) = L + 1

-- the measures that have ended, and the rows of the open one
pub record Held : Type 0 where
  pub done : List (List Row)
  pub cur : List Row

-- one mark more
abbrev pub held_with : Held → Option Row → Held
held_with h None = record { done = h.done ++ (h.cur ∷ []); cur = [] }
held_with h (Some r) = record { done = h.done; cur = h.cur ++ (r ∷ []) }

-- what some marks come to
unfoldable pub held : List (Option Row) → Held
held ms = fold held_with (record { done = []; cur = [] }) ms
