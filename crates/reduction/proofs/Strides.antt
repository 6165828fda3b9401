-- Laws of the stride: it divides the row count, and a measure of fewer than two rows has stride 1.
use mathlib.Core.Path.{◌≡◌, refl, ap, sym, ◌∙◌}
use mathlib.Core.List.{List, [], ◌∷◌}
use Prim.Native.Nat.{ℕ, ◌^◌, ◌%◌, ◌<◌}
use native.Mathlib.Omega.{arith}
use borrow.Author.Tests.{eqb-true}
use lib.ListN.{length}
use Rattle.definitions.specs.Lines.{Row}
use Rattle.definitions.specs.Reduction.{multiple, off_zero, stride}
use Rattle.definitions.proofs.Bools.{and_left}
use Rattle.definitions.proofs.Reduction.{stride-is}

pub stride-divides : (rs : List Row) → length rs % stride rs ≡ 0
unfolding stride
stride-divides [] = refl
stride-divides (r ∷ rs) =
    eqb-true (length (r ∷ rs) % stride (r ∷ rs)) 0 (and_left (multiple (stride (r ∷ rs)) (length (r ∷ rs))) (off_zero (stride (r ∷ rs)) 0 (r ∷ rs)) (stride-is r rs).allowed)

pub stride-small : (rs : List Row) → length rs < 2 → 2 ^ 0 ≡ stride rs
unfolding stride
stride-small [] h = refl
stride-small (r ∷ []) h = refl
stride-small (r ∷ r' ∷ rs) h = absurd (omega arith)

-- the exponent of the stride of n rows, with what follows from it
pub shift_is : (rs : List Row) (n e : ℕ) → length rs ≡ n → 2 ^ e ≡ stride rs → (2 ^ e ≡ stride rs) × (n % 2 ^ e ≡ 0)
shift_is rs n e l h = (h, ap (λ (m : ℕ). m % 2 ^ e) (sym l) ∙ ap (λ (m : ℕ). length rs % m) h ∙ stride-divides rs)
