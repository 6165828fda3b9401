-- What callers of the note writer go by: the state and the slice after some rows, what one more row asks, and the end.
use Rattle.std.specs.Prelude.{◌≡◌, List, [], ◌∷◌, ◌++◌, ℕ, ◌+◌, ◌*◌, ◌<◌, ◌≤◌, length}
use Rattle.definitions.specs.Sizes.{row_numbers_bound}
use Rattle.definitions.specs.Lists.{joined, padded}
use Rattle.definitions.specs.Lines.{Row}
use Rattle.definitions.specs.Notes.{notes_from}
use Rattle.definitions.specs.Records.{records}
use Rattle.row_notes.specs.Drafts.{drafts}
use Rattle.taps.specs.Taps.{mask_of_line}
use Rattle.taps.specs.declared.Taps.TheVariants.{Mask}
use Rattle.row_notes.specs.Writer.{DraftsHeld, FreeHeads}
use Rattle.row_notes.specs.declared.ChartNotesScratch.{ChartNotesScratch}

-- After these rows the struct s and the slice l hold their drafts: at most one for each cell.
pub record Written (rows : List Row) (s : ChartNotesScratch) (l : List ℕ) : Type 0 where
  pub row : s.row_index ≡ length rows
  pub holds : DraftsHeld l s (drafts rows)
  pub cells : s.count ≤ length (joined rows)
  pub low : s.count ≤ 10 * length rows

-- What a row asks: rows were written, and there is room for a record for each of its cells.
pub record RecordRoom (s : ChartNotesScratch) (row l : List ℕ) : Type 0 where
  pub rows : List Row
  pub written : Written rows s l
  pub few : length rows < row_numbers_bound
  pub narrow : length row ≤ 10
  pub room : (s.count + length row) * 10 ≤ length l

-- The struct has this number of records and of rows, and the cells are taps of this mask in columns without an open head.
pub record MaskFits (i n m : ℕ) (l : List ℕ) (s : ChartNotesScratch) (cells : Row) : Type 0 where
  pub row : s.row_index ≡ i
  pub count : s.count ≡ n
  pub room : RecordRoom s cells l
  pub heads : FreeHeads s.hold_heads cells
  pub mask : mask_of_line cells ≡ Mask m

-- What a row of taps of this mask asks, whichever they are.
pub record MaskReady (i n m : ℕ) (l : List ℕ) : Type 0 where
  pub scratch : ChartNotesScratch
  pub cells : Row
  pub fits : MaskFits i n m l scratch cells

-- the struct after a row of taps, with the number of records
abbrev pub after_taps : ChartNotesScratch → ℕ → ChartNotesScratch
after_taps s n =
    record { hold_heads = s.hold_heads; count = n; row_index = s.row_index + 1; has_invalid = s.has_invalid }

-- One row of taps more, by its mask: whatever struct, cells and rows before they are, and r is then the number of records.
abbrev pub MaskWritten : ℕ → ℕ → ℕ → List ℕ → ℕ → List ℕ → Type 0
MaskWritten i n m l r l' =
    (s : ChartNotesScratch) (cells : Row) → MaskFits i n m l s cells
    → (rows : List Row) → Written rows s l → Written (rows ++ (cells ∷ [])) (after_taps s r) l'

pub record RowsWritten (s : ChartNotesScratch) (l : List ℕ) : Type 0 where
  pub rows : List Row
  pub written : Written rows s l

-- A slice of this length is left as l: the records of the rows' notes, and zeros. r is the number of notes.
pub record Finished (rows : List Row) (size : ℕ) (l : List ℕ) (r : ℕ) : Type 0 where
  pub count : r ≡ length (notes_from 0 rows)
  pub bytes : l ≡ padded 0 size (records (notes_from 0 rows))
