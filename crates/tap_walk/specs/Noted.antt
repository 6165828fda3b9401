-- What is noted of minimised rows of at most L bytes: `done` are the measures that have ended, `cur` the rows of the open one, l is the note slice.
use Rattle.std.specs.Prelude.{List, [], ◌++◌, All, ℕ, ◌≤◌, ◌<◌, length}
use Rattle.definitions.specs.Sizes.{row_numbers_bound}
use Rattle.definitions.specs.Lists.{joined}
use Rattle.definitions.specs.Lines.{Row}
use Rattle.taps.specs.Taps.{FreeAre}
use Rattle.row_notes.specs.Writer.{no_head}
use Rattle.row_notes.specs.Written.{Written, RecordRoom}
use Rattle.objects.specs.Rows.{DepthsLow}
use Rattle.objects.specs.LastHeld.{LastHeld}
use Rattle.row_notes.specs.declared.ChartNotesScratch.{ChartNotesScratch}
use Rattle.objects.specs.declared.LastScan.{LastScan}

-- the notes and the last object row, as the structs of the layers beneath; a column without its bit in `last.busy` has no open head
pub record Noting : Type 0 where
  pub scratch : ChartNotesScratch
  pub last : LastScan

pub record NotedRows (L : ℕ) (n : Noting) (l : List ℕ) (done : List (List Row)) (cur : List Row) : Type 0 where
  pub written : Written (joined done ++ cur) n.scratch l
  pub wide : All (λ r. length r ≤ L) (joined done ++ cur)
  pub last : LastHeld n.last done cur
  pub free : FreeAre n.last.busy no_head n.scratch.hold_heads

-- no measure is open
abbrev pub Noted : ℕ → Noting → List ℕ → List (List Row) → Type 0
Noted L n l done = NotedRows L n l done []

-- what one row asks
pub record RowReady (n : Noting) (row l : List ℕ) : Type 0 where
  pub room : RecordRoom n.scratch row l
  pub rows : n.last.rows < row_numbers_bound
  pub low : DepthsLow 4294967294 n.last.depths
  pub free : FreeAre n.last.busy no_head n.scratch.hold_heads
