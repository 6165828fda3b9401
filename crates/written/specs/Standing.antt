-- What is held of the notes above a row.
use Rattle.std.specs.Prelude.{◌≡◌, Bool, ◌&&◌, ◌||◌, List, ℕ, ◌-◌, ◌%◌, ◌≤◌, ◌<◌, ◌==◌, nat_le, nat_lt, All, length, take, drop, slice_index}
use Rattle.definitions.specs.Sizes.{row_numbers_bound}
use Rattle.definitions.specs.Records.{number_of_tail}
use Rattle.definitions.specs.WrittenBack.{some_tailed}
use Rattle.definitions.specs.declared.Note.{Note}
use Rattle.written.specs.declared.rows.NotesAbove.{NotesAbove}

-- row j is a second row of those from row i to before row e: one that halving takes
abbrev pub second_row : ℕ → ℕ → ℕ → Bool
second_row i e j = nat_le i j && (nat_lt j e && (j - i) % 2 == 1)

-- a note stands or ends in one
abbrev pub note_in_second : ℕ → ℕ → Note → Bool
note_in_second i e n = second_row i e n.row || second_row i e (number_of_tail n.tail)

-- before row i: the notes before the place stand above it, the others in it or below, and of each row from it on a column's tail stands there exactly
-- if one of the notes before the place has its tail there
pub record Standing (ns : List Note) (i : ℕ) (w : NotesAbove) : Type 0 where
  pub within : w.next ≤ length ns
  pub above : All (λ y. y.row < i) (take w.next ns)
  pub below : All (λ y. i ≤ y.row) (drop w.next ns)
  pub tails : (c j : ℕ) → c < 10 → i ≤ j → j < row_numbers_bound → (slice_index w.tails c == j) ≡ some_tailed j c (take w.next ns)

-- of any notes, before row 0
abbrev pub StandsFirst : NotesAbove → Type 0
StandsFirst w = (ns : List Note) → Standing ns 0 w
