-- Specification, Cells: what a byte of a row stands for, and what cells do. "The letters of the cells are those of the StepMania pages on the SM and
-- SSC formats. Where the pages and the Rust differ the Rust decides": docs/DIFFERENCES.md, "The format pages and the Rust". "The letters m, l and f
-- are the Rust's, and the format pages lack them."
use Rattle.std.specs.Prelude.{Bool, true, false, if◌then◌else◌, ℕ, ◌==◌, slice_index_or}
use Rattle.definitions.specs.Lines.{Row}
use Rattle.definitions.specs.declared.Cell.{Cell}
use Rattle.definitions.specs.declared.Cell.TheVariants.{Empty, Tap, Hold, Tail, Roll, Mine, Lift, Fake, KeySound, LowerMine, LowerLift, LowerFake}
use Rattle.definitions.specs.declared.Kind.TheVariants as kind
use Rattle.definitions.specs.declared.NoteEffect.{NoteEffect}
use Rattle.definitions.specs.declared.NoteEffect.TheVariants as note
use Rattle.definitions.specs.declared.DepthEffect.{DepthEffect}
use Rattle.definitions.specs.declared.DepthEffect.TheVariants.{Nothing, Blocks, Opens, Closes}

-- the twelve cells of the table; "A byte that is not in the table is an empty cell"
unfoldable pub cell_of : ℕ → Cell
cell_of b =
    if b == 49 then Tap
    else if b == 50 then Hold
    else if b == 51 then Tail
    else if b == 52 then Roll
    else if b == 77 then Mine
    else if b == 76 then Lift
    else if b == 70 then Fake
    else if b == 75 then KeySound
    else if b == 109 then LowerMine
    else if b == 108 then LowerLift
    else if b == 102 then LowerFake
    else Empty

-- The byte of a row in a column, and a `0` past its end. "A cell is a byte of a row, and its place in the row is its column."
abbrev pub byte_at : ℕ → Row → ℕ
byte_at c r = slice_index_or r c 48

-- What a cell is counted as, beside an arrow.
pub data CountKind : Type 0 where
  nothing hold roll tail mine lift fake keysound : CountKind

-- What a cell does, all in one place. "In its column a cell opens, closes, blocks or does nothing; Last beat, Hold tracker and Correction say what
-- that does to each of theirs. A cell that drops takes the note from the head that is open in its column."
pub record Effects : Type 0 where
  pub arrow : Bool
  pub counted : CountKind
  pub note : NoteEffect
  pub hold : DepthEffect
  pub object : DepthEffect
  pub judged_arrow : Bool
  pub unjudged_fake : Bool

abbrev row : Bool → CountKind → NoteEffect → DepthEffect → DepthEffect → Bool → Bool → Effects
row a k n h o j u = record { arrow = a; counted = k; note = n; hold = h; object = o; judged_arrow = j; unjudged_fake = u }

-- The table. "The arrows are the cells 1, 2 and 4. A K is a keysound and is counted as nothing else." "A 3 closes the open head of its column" "Any
-- of 1 2 4 M L F m l f drops the open head's note in its column." "K and the empty cells touch no note." For the tracker 2 and 4 open, 3 closes, and
-- 1, M, L, F block; for the last beat K blocks too. "On a judged row the arrows are 1, L, l and the paired heads." "On an unjudged row each 1, L, l, M,
-- m, F, f and paired head is one fake, and nothing else is counted."
--                    arrow counted notes tracker last beat judged unjudged
abbrev pub effects_of : Cell → Effects
effects_of Empty = row false nothing note.Nothing Nothing Nothing false false
effects_of Tap = row true nothing (note.Single kind.Tap) Blocks Blocks true true
effects_of Hold = row true hold (note.Head kind.Hold) Opens Opens true true
effects_of Tail = row false tail note.Closes Closes Closes false false
effects_of Roll = row true roll (note.Head kind.Roll) Opens Opens true true
effects_of Mine = row false mine (note.Single kind.Mine) Blocks Blocks false true
effects_of Lift = row false lift (note.Single kind.Lift) Blocks Blocks true true
effects_of Fake = row false fake (note.Single kind.Fake) Blocks Blocks false true
effects_of KeySound = row false keysound note.Nothing Nothing Blocks false false
effects_of LowerMine = row false mine (note.Single kind.Mine) Nothing Nothing false true
effects_of LowerLift = row false lift (note.Single kind.Lift) Nothing Nothing true true
effects_of LowerFake = row false fake (note.Single kind.Fake) Nothing Nothing false true

-- "The arrows are the cells 1, 2 and 4."
abbrev pub is_arrow : Cell → Bool
is_arrow x = (effects_of x).arrow

-- what a cell does to the tracker and to the phantom depth
abbrev pub hold_effect : Cell → DepthEffect
hold_effect x = (effects_of x).hold

-- what a cell does to the depth of the last beat
abbrev pub object_effect : Cell → DepthEffect
object_effect x = (effects_of x).object
