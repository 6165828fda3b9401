-- The stacks of open heads in the tracker's flat arrays.
use Rattle.std.specs.Prelude.{◌≡◌, Option, Some, None, List, [], ◌∷◌, ℕ, zero, suc, ◌+◌, ◌*◌, ◌≤◌, ◌<◌, length, slice_index}
use Rattle.definitions.specs.Tracker.{Pair, next_stack, paired}
use Rattle.definitions.specs.declared.DepthEffect.{DepthEffect}
use Rattle.taps.specs.Taps.{FreeAre}
use Rattle.holds.specs.declared.Tracker.{Tracker}

-- the first d heads at column c's places, newest first
abbrev pub stack_at : List ℕ → ℕ → ℕ → List ℕ
stack_at heads c zero = []
stack_at heads c (suc d) = slice_index heads (8 * c + d) ∷ stack_at heads c d

-- the open heads of a column, newest first
unfoldable pub stack_of : Tracker → ℕ → List ℕ
stack_of t c = stack_at t.heads c (slice_index t.depths c)

-- no column has more than eight open heads
abbrev pub Shallow : List ℕ → Type 0
Shallow depths = (c : ℕ) → c < 10 → slice_index depths c ≤ 8

-- the arrays have their sizes
pub record Sized (t : Tracker) : Type 0 where
  pub wide : length t.heads ≡ 80
  pub deep : length t.depths ≡ 10

-- what a cell in column c may be tracked in
pub record TrackReady (c : ℕ) (t : Tracker) : Type 0 where
  pub inside : c < 10
  pub sized : Sized t
  pub low : Shallow t.depths

-- the pair of a tail at this row
abbrev pub ended_at : ℕ → Option ℕ → List Pair
ended_at row None = []
ended_at row (Some h) = record { head = h; tail = row } ∷ []

-- What a cell of a row does in column c: its stack, the pairs that it makes, and that the other columns stay.
pub record TrackStepped (e : DepthEffect) (row c : ℕ) (t t' : Tracker) (ps : List Pair) : Type 0 where
  pub stack : stack_of t' c ≡ next_stack e row (stack_of t c)
  pub pairs : ps ≡ paired e row (stack_of t c)
  pub sized : Sized t'
  pub others : (d : ℕ) → d < 10 → (d ≡ c → ⊥) → stack_of t' d ≡ stack_of t d
  pub busy : FreeAre t.busy 0 t.depths → FreeAre t'.busy 0 t'.depths
