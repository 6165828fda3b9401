-- Rows that leave the tracker as it is: those of taps in columns without an open head.
use mathlib.Core.Path.{◌≡◌}
use mathlib.Core.Bool.{false, ◌||◌}
use mathlib.Core.List.{List, []}
use Prim.Native.Nat.{ℕ, ◌<◌}
use Rattle.definitions.specs.Lines.{Row}
use Rattle.definitions.specs.Cells.{cell_of, byte_at}
use Rattle.definitions.specs.Tracker.{next_stack, paired, hold_at}
use Rattle.definitions.specs.Correction.{is_opening, is_closing}
use Rattle.definitions.specs.declared.DepthEffect.{DepthEffect}
use Rattle.taps.specs.Taps.{bit, FreeTaps, FreeAre}
use Rattle.taps.proofs.Free.{Free, zero-cell, tap-there, free-cell}
use Rattle.holds.specs.Stacks.{stack_of}
use Rattle.holds.specs.declared.Tracker.{Tracker}
use Rattle.holds.proofs.Stacks.{no-depth}

-- a cell of such a row: a `0`, or a `1` in a column without an open head
module _ (busy c i : ℕ) (st : List ℕ) (z : bit c busy ≡ 0 → st ≡ []) where
  free-stack : {b : ℕ} → Free busy c b → next_stack (hold_at b) i st ≡ st
  unfolding hold_at cell_of
  free-stack (zero-cell e) = rw e
  free-stack (tap-there e f) = rw (e, z f)

  free-pairs : {b : ℕ} → Free busy c b → paired (hold_at b) i st ≡ []
  unfolding hold_at cell_of
  free-pairs (zero-cell e) = rw e
  free-pairs (tap-there e f) = rw e

-- The row leaves the tracker as it is: in no column does its cell, at whatever row, change the open heads or pair with one.
pub record Leaves (t : Tracker) (cells : Row) : Type 0 where
  pub stack : (c i : ℕ) → c < 10 → next_stack (hold_at (byte_at c cells)) i (stack_of t c) ≡ stack_of t c
  pub pairs : (c i : ℕ) → c < 10 → paired (hold_at (byte_at c cells)) i (stack_of t c) ≡ []

pub free-leaves : (m : ℕ) (t : Tracker) (r : Row) → FreeTaps t.busy m r → FreeAre t.busy 0 t.depths → Leaves t r
free-leaves m t r f a =
    record {
      stack = λ c i h. free-stack t.busy c i _ (λ e. no-depth t c (a c h e)) (free-cell t.busy m r f c);
      pairs = λ c i h. free-pairs t.busy c i _ (λ e. no-depth t c (a c h e)) (free-cell t.busy m r f c);
    }

-- neither opens nor closes
abbrev Keeps : DepthEffect → Type 0
Keeps e = (is_opening e || is_closing e) ≡ false

-- none of its cells is a head or a tail
pub free-keeps : (busy m : ℕ) (r : Row) → FreeTaps busy m r → (c : ℕ) → Keeps (hold_at (byte_at c r))
unfolding hold_at cell_of
free-keeps busy m r f c = go (free-cell busy m r f c)
  where
    go : {b : ℕ} → Free busy c b → Keeps (hold_at b)
    go (zero-cell e) = rw e
    go (tap-there e z) = rw e
