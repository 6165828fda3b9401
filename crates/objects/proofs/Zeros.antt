-- A row that is all zero is no object row and changes no depth.
use mathlib.Core.Path.{◌≡◌, refl}
use mathlib.Core.Bool.{true, false}
use mathlib.Core.List.{[], ◌∷◌}
use Prim.Native.Nat.{ℕ, suc}
use borrow.Author.Tests.{eqb-true}
use lib.Dec.{eqb}
use Rattle.definitions.specs.Lines.{Row}
use Rattle.definitions.specs.Cells.{cell_of, byte_at}
use Rattle.definitions.specs.Reduction.{all_zero}
use Rattle.definitions.specs.Objects.{Depths, object_at, after_row, object_from, object_row}
use Rattle.definitions.specs.declared.DepthEffect.TheVariants as depth
use Rattle.definitions.proofs.Bools.{and_left, and_right}
use Rattle.definitions.proofs.Columns.{zero-byte}

zero-at : (c : ℕ) (r : Row) → all_zero r ≡ true → object_at (byte_at c r) ≡ depth.Nothing
unfolding object_at cell_of
zero-at c r z = rw (zero-byte c r z)

pub zero-after : (D : Depths) (r : Row) → all_zero r ≡ true → after_row D r ≡ D
zero-after D r z = λ i c. same c i
  where
    same : (c : ℕ) → after_row D r c ≡ D c
    same c = rw (zero-at c r z)

zero-from : (D : Depths) (c : ℕ) (r : Row) → all_zero r ≡ true → object_from D c r ≡ false
unfolding object_at cell_of
zero-from D c [] z = refl
zero-from D c (b ∷ r) z =
    rw (eqb-true b 48 (and_left (eqb b 48) (all_zero r) z), zero-from D (suc c) r (and_right (eqb b 48) (all_zero r) z))

pub zero-object : (D : Depths) (r : Row) → all_zero r ≡ true → object_row D r ≡ false
zero-object D r z = zero-from D 0 r z
