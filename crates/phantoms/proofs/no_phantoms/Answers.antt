-- `phantoms::no_phantoms` meets its contract: ten depths of 0.
use mathlib.Core.Path.{◌≡◌, refl, sym}
use mathlib.Core.List.{[], ◌∷◌}
use Prim.Native.Nat.{ℕ, ◌<◌}
use native.Mathlib.Omega.{arith}
use lib.ListN.{get_or, get_or-replicate}
use Rattle.phantoms.proofs.Columns.{column-none}
use Rattle.phantoms.proofs.no_phantoms.Goals as goal

-- `phantoms::no_phantoms` meets its contract: ten depths of 0.
none : (c : ℕ) → c < 10 → ◌≡◌ {A = ℕ} (get_or (0 ∷ 0 ∷ 0 ∷ 0 ∷ 0 ∷ 0 ∷ 0 ∷ 0 ∷ 0 ∷ 0 ∷ []) c 0) 0
none c h = get_or-replicate 10 c 0 0 h

pub returns : goal.returns
returns c =
    λ L h.
    record {
      depths = λ c k. none c (omega arith);
      heads = refl;
      tails = refl;
      met = sym (column-none L);
      low = record { depths = λ c k. omega (arith, none c k); heads = omega arith; tails = omega arith };
    }
