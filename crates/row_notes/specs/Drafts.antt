-- The note writer's state on plain lists, row by row: drafts of notes, of which those of heads wait until a later cell of their column ends
-- them.
use Rattle.std.specs.Prelude.{if◌then◌else◌, List, [], ◌∷◌, ◌++◌, map, ℕ, zero, suc, ◌==◌}
use Rattle.std.specs.Prelude.{Option, Some, None}
use Rattle.definitions.specs.Lines.{Row}
use Rattle.definitions.specs.Notes.{effect_at, plain_note, held_note}
use Rattle.definitions.specs.declared.Kind.{Kind}
use Rattle.definitions.specs.declared.Note.{Note}
use Rattle.definitions.specs.declared.NoteEffect.{NoteEffect}
use Rattle.definitions.specs.declared.NoteEffect.TheVariants.{Nothing, Closes, Single, Head}

-- no tail is looked for; one is; the head has ended, with this tail row or dropped
pub data State : Type 0 where
  plain : State
  waiting : State
  ended : Option ℕ → State

-- a note before its tail is known
pub record NoteDraft : Type 0 where
  pub row : ℕ
  pub column : ℕ
  pub kind : Kind
  pub state : State

-- a head that waits ends so
abbrev pub settle_state : Option ℕ → State → State
settle_state o plain = plain
settle_state o waiting = ended o
settle_state o (ended x) = ended x

abbrev pub settled : Option ℕ → NoteDraft → NoteDraft
settled o d = record { row = d.row; column = d.column; kind = d.kind; state = settle_state o d.state }

-- the heads of column c end so
abbrev pub settle : ℕ → Option ℕ → NoteDraft → NoteDraft
settle c o d = if d.column == c then settled o d else d

-- what a cell at row i and column c does to the drafts
abbrev pub touch : NoteEffect → ℕ → ℕ → List NoteDraft → List NoteDraft
touch Nothing i c ds = ds
touch Closes i c ds = map (settle c (Some i)) ds
touch (Single k) i c ds = map (settle c None) ds
touch (Head k) i c ds = map (settle c None) ds

abbrev pub one : ℕ → ℕ → Kind → State → List NoteDraft
one i c k s = record { row = i; column = c; kind = k; state = s } ∷ []

-- the draft that a cell makes
abbrev pub made : NoteEffect → ℕ → ℕ → List NoteDraft
made Nothing i c = []
made Closes i c = []
made (Single k) i c = one i c k plain
made (Head k) i c = one i c k waiting

abbrev pub step_cell : ℕ → ℕ → NoteEffect → List NoteDraft → List NoteDraft
step_cell i c x ds = touch x i c ds ++ made x i c

-- the cells of row i from column c on
unfoldable pub step_row : ℕ → ℕ → Row → List NoteDraft → List NoteDraft
step_row i c [] ds = ds
step_row i c (b ∷ bs) ds = step_row i (suc c) bs (step_cell i c (effect_at b) ds)

-- these rows, of which the first is row i
unfoldable pub step_rows : ℕ → List Row → List NoteDraft → List NoteDraft
step_rows i [] ds = ds
step_rows i (r ∷ rs) ds = step_rows (suc i) rs (step_row i zero r ds)

-- the drafts of the rows read so far
abbrev pub drafts : List Row → List NoteDraft
drafts rows = step_rows 0 rows []

abbrev pub gather : {A B : Type 0} → (A → List B) → List A → List B
gather f [] = []
gather f (x ∷ xs) = f x ++ gather f xs

-- the notes of a draft, where a head that waits gets this tail
abbrev pub note_by : ℕ → ℕ → Kind → State → Option ℕ → List Note
note_by i c k plain t = plain_note i c k
note_by i c k waiting t = held_note i c k t
note_by i c k (ended o) t = held_note i c k o

-- the notes that are left at the end: a head that still waits is none
abbrev pub keep : NoteDraft → List Note
keep d = note_by d.row d.column d.kind d.state None

abbrev pub notes_left : List NoteDraft → List Note
notes_left ds = gather keep ds
