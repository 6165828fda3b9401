-- A row of a text as one look tells it.
use Rattle.std.specs.Prelude.{Bool, ◌&&◌, not, List, ◌∷◌, ℕ, ◌+◌, ◌<◌, ◌≤◌, ◌≡◌, ◌⊎◌, ◌==◌, nat_le, nat_lt, length, slice_index}
use Rattle.lines.specs.Words.{starts_plain}

-- A row's line of so many bytes, its newline among them, has its L cells and at most one byte between.
abbrev pub LineStep : ℕ → ℕ → Type 0
LineStep L step = (L < step) × (step ≤ L + 2)

-- Whether a text has twelve bytes to look at, and its first L are plain ones.
abbrev pub near_cells : ℕ → List ℕ → Bool
near_cells L s = nat_le 12 (length s) && starts_plain L s

-- And whether its first byte is past `/` and no `;`, so that it begins with a row of a chart.
abbrev pub near_row : ℕ → List ℕ → Bool
near_row L s = (near_cells L s && nat_lt 47 (slice_index s 0)) && not (slice_index s 0 == 59)

-- Or is no blank, `,` or `;` and nothing below, so that it begins with a row of minimised text.
abbrev pub near_back_row : ℕ → List ℕ → Bool
near_back_row L s = ((near_cells L s && nat_lt 15 (slice_index s 0)) && not (slice_index s 0 == 44)) && not (slice_index s 0 == 59)

-- What is left of a text, or the same after an empty line, which both readings pass over.
abbrev pub Below : List ℕ → List ℕ → Type 0
Below below rest = (rest ≡ below) ⊎ (rest ≡ 10 ∷ below)
