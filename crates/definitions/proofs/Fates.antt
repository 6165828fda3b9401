-- A head's tail row is told by its fate, and so are the notes of rows.
use mathlib.Core.Path.{◌≡◌, refl, ap, ap₂, ◌∙◌}
use mathlib.Core.List.{List, [], ◌∷◌, ◌++◌}
use Rattle.std.specs.Prelude.{Option, None, Some}
use Prim.Native.Nat.{ℕ, suc}
use Rattle.definitions.specs.Lines.{Row}
use Rattle.definitions.specs.Cells.{byte_at}
use Rattle.definitions.specs.Notes.{effect_at, meets, tail_row_of, cell_notes, row_notes, notes_from}
use Rattle.definitions.specs.Dropped.{decides, fate_of, made_row, made_from}
use Rattle.definitions.specs.declared.Note.{Note}
use Rattle.definitions.specs.declared.NoteEffect.{NoteEffect}
use Rattle.definitions.specs.declared.NoteEffect.TheVariants.{Nothing, Closes, Single, Head}
use Rattle.definitions.specs.declared.Fate.{Fate}
use Rattle.definitions.specs.declared.Fate.TheVariants.{ClosedAt, DroppedBy}

-- a head's tail row, by its fate
abbrev pub tail_by : Fate → Option ℕ
tail_by (ClosedAt j) = Some j
tail_by (DroppedBy d) = None

decided : (x : NoteEffect) (i : ℕ) (f : Fate) → meets x i (tail_by f) ≡ tail_by (decides x i f)
decided Nothing i f = refl
decided Closes i f = refl
decided (Single k) i f = refl
decided (Head k) i f = refl

pub tail-fate : (c i : ℕ) (rs : List Row) → tail_row_of c i rs ≡ tail_by (fate_of c i rs)
tail-fate c i [] = refl
tail-fate c i (r ∷ rs) =
    ap (meets (effect_at (byte_at c r)) i) (tail-fate c (suc i) rs) ∙ decided (effect_at (byte_at c r)) i (fate_of c (suc i) rs)

-- the notes of a cell, by the fate that a head there has
abbrev pub cell_noted : NoteEffect → ℕ → ℕ → Fate → List Note
cell_noted x i c f = cell_notes x i c (tail_by f)

row-made : (i c : ℕ) (bs : Row) (rs : List Row) → row_notes i c bs rs ≡ made_row cell_noted i c bs rs
row-made i c [] rs = refl
row-made i c (b ∷ bs) rs =
    ap₂ (λ (s t : List Note). s ++ t) (ap (cell_notes (effect_at b) i c) (tail-fate c (suc i) rs)) (row-made i (suc c) bs rs)

pub notes-made : (i : ℕ) (rs : List Row) → notes_from i rs ≡ made_from cell_noted i rs
notes-made i [] = refl
notes-made i (r ∷ rs) = ap₂ (λ (s t : List Note). s ++ t) (row-made i 0 r rs) (notes-made (suc i) rs)
