-- Beats written into a slice.
use Rattle.std.specs.Prelude.{List, ℕ, ◌+◌, ◌++◌, Float, take, drop}
use Rattle.definitions.specs.Beats.{row_beats}

-- a slice with the beats of a measure's rows written from a place on
abbrev pub with_row_beats : ℕ → ℕ → ℕ → List Float → List Float
with_row_beats at midx rows beats = (take at beats ++ row_beats midx rows 0 rows) ++ drop (at + rows) beats
