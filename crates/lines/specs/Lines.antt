-- Specification, Lines, "A text is cut at each byte 10", as the line reader meets it: the line at a place of the text, and the lines from there on.
use Rattle.std.specs.Prelude.{ℕ, if◌then◌else◌, List, [], length, drop, nat_le}
use Rattle.definitions.specs.Lists.{up_to}
use Rattle.definitions.specs.Lines.{cut}

-- the first line of a text
unfoldable pub first_line : List ℕ → List ℕ
first_line s = up_to 10 s

-- the lines of a text that start at `off` and after it: none past the text's end
unfoldable pub lines_from : List ℕ → ℕ → List (List ℕ)
lines_from text off = if nat_le off (length text) then cut (drop off text) else []
