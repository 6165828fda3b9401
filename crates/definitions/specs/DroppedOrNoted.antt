-- Specification, Dropped holds: what holds of every text. `dropped-or-noted` in proofs/DroppedOrNoted.antt proves it.
use Rattle.std.specs.Prelude.{◌≡◌, Bool, true, false, ◌&&◌, ◌==◌, List, ℕ, ◌+◌, length, count_by}
use Rattle.definitions.specs.Lists.{joined, rises}
use Rattle.definitions.specs.Reduction.{minimised}
use Rattle.definitions.specs.Correction.{head_count}
use Rattle.definitions.specs.Notes.{notes}
use Rattle.definitions.specs.Damage.{is_head, byte_in}
use Rattle.definitions.specs.Dropped.{dropped_heads}
use Rattle.definitions.specs.declared.Tail.{Tail}
use Rattle.definitions.specs.declared.Tail.TheVariants.{Without, Row}
use Rattle.definitions.specs.declared.Note.{Note}
use Rattle.definitions.specs.declared.DroppedHead.{DroppedHead}

-- how many of the list have that row and column, and how many notes
abbrev pub listed : ℕ → ℕ → List DroppedHead → ℕ
listed i c ds = count_by (λ d. d.row == i && d.column == c) ds

abbrev pub noted : ℕ → ℕ → List Note → ℕ
noted i c ns = count_by (λ n. n.row == i && n.column == c) ns

-- a hold or roll among the notes: they alone have a tail
abbrev pub has_tail : Tail → Bool
has_tail Without = false
has_tail (Row j) = true

-- Of every text, at every row and column.
pub record DroppedOrNoted (L : ℕ) (text : List ℕ) : Type 0 where
  -- "each head of the minimised rows is listed once or has one note record, and not both"
  pub heads : (i c : ℕ) → is_head (byte_in (joined (minimised L text)) i c) ≡ true
      → listed i c (dropped_heads L text) + noted i c (notes L text) ≡ 1
  -- "nothing else is listed"
  pub others : (i c : ℕ) → is_head (byte_in (joined (minimised L text)) i c) ≡ false → listed i c (dropped_heads L text) ≡ 0
  -- "the listed heads and the note records with a tail together are as many as the heads"
  pub sum : length (dropped_heads L text) + count_by (λ n. has_tail n.tail) (notes L text) ≡ head_count (joined (minimised L text))
  -- "each listed head stands before the next, by row, then column"
  pub rising : rises (λ d. d.row) (λ d. d.column) (dropped_heads L text) ≡ true
