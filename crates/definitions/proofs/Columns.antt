-- The bytes of a row by its columns, in a row of zeros and past a row's end, and how far a phantom depth can rise.
use mathlib.Core.Path.{◌≡◌, refl}
use mathlib.Core.Bool.{true}
use mathlib.Core.List.{[], ◌∷◌}
use Prim.Native.Nat.{ℕ, zero, suc, ◌+◌, ◌≤◌}
use native.Mathlib.Omega.{arith}
use borrow.Author.Tests.{eqb-true}
use lib.Dec.{eqb}
use lib.ListN.{length, get_or-eq_default}
use Rattle.definitions.specs.Lines.{Row}
use Rattle.definitions.specs.Cells.{byte_at, cell_of}
use Rattle.definitions.specs.Reduction.{all_zero}
use Rattle.definitions.specs.Tracker.{hold_at}
use Rattle.definitions.specs.Correction.{phantom_step}
use Rattle.definitions.specs.declared.DepthEffect.{DepthEffect}
use Rattle.definitions.specs.declared.DepthEffect.TheVariants.{Nothing, Blocks, Opens, Closes}
use Rattle.definitions.proofs.Bools.{and_left, and_right}

-- in every column of a row of zeros stands a `0`
pub zero-byte : (c : ℕ) (r : Row) → all_zero r ≡ true → byte_at c r ≡ 48
zero-byte c [] z = refl
zero-byte zero (b ∷ r) z = eqb-true b 48 (and_left (eqb b 48) (all_zero r) z)
zero-byte (suc c) (b ∷ r) z = zero-byte c r (and_right (eqb b 48) (all_zero r) z)

-- past a row's end a byte is a `0`, which does nothing
pub past_end : (r : Row) (c : ℕ) → length r ≤ c → hold_at (byte_at c r) ≡ Nothing
unfolding hold_at cell_of
past_end r c h = rw (get_or-eq_default r 48 h)

pub step-most : (e : DepthEffect) (d : ℕ) → phantom_step e d ≤ d + 1
step-most Nothing d = omega arith
step-most Blocks d = omega arith
step-most Opens d = omega arith
step-most Closes d = omega arith
