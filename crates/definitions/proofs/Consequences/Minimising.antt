-- Minimising what is minimised.
use mathlib.Core.Path.{◌≡◌, refl, ap, sym, ◌∙◌}
use mathlib.Core.Logic.{◌⊎◌, inl, inr}
use mathlib.Core.Bool.{Bool, true, false, cond}
use mathlib.Core.List.{List, [], ◌∷◌}
use Prim.Native.Nat.{ℕ, zero, suc, ◌≤◌}
use native.Mathlib.Omega.{arith}
use lib.ListN.{length}
use Rattle.definitions.specs.Lines.{Row}
use Rattle.definitions.specs.Reduction.{reduce}
use Rattle.definitions.specs.Halving.{evens, halvable, halved, ReduceHalved}
use Rattle.definitions.specs.Consequences.{ReducedStays}

evens-short : (rs : List Row) → length (evens rs) ≤ length rs
evens-short [] = omega arith
evens-short (r ∷ []) = omega arith
evens-short (r ∷ r' ∷ rs) = omega (arith, evens-short rs)

-- rows halved as long as it goes are none, or cannot be halved
halved-whole : (k : ℕ) (rs : List Row) → length rs ≤ k → (halved k rs ≡ []) ⊎ (halvable (halved k rs) ≡ false)
halved-whole zero [] h = inl refl
halved-whole zero (r ∷ rs) h = absurd (omega arith)
halved-whole (suc k) [] h = halved-whole k [] (omega arith)
halved-whole (suc k) (r ∷ []) h = inr refl
halved-whole (suc k) (r ∷ r' ∷ rs) h = go (halvable (r ∷ r' ∷ rs)) refl (halved-whole k (r ∷ evens rs) (omega (arith, evens-short rs)))
  where
    go : (t : Bool) → halvable (r ∷ r' ∷ rs) ≡ t → (halved k (r ∷ evens rs) ≡ []) ⊎ (halvable (halved k (r ∷ evens rs)) ≡ false)
        → (cond t (halved k (r ∷ evens rs)) (r ∷ r' ∷ rs) ≡ []) ⊎ (halvable (cond t (halved k (r ∷ evens rs)) (r ∷ r' ∷ rs)) ≡ false)
    go true e ih = ih
    go false e ih = inr e

-- such rows stay
whole-stays : (k : ℕ) (rs : List Row) → (rs ≡ []) ⊎ (halvable rs ≡ false) → halved k rs ≡ rs
whole-stays zero rs h = refl
whole-stays (suc k) rs (inl e) = rw e (whole-stays k [] (inl refl))
whole-stays (suc k) rs (inr e) = rw e

pub reduced-stays : ReduceHalved → ReducedStays
unfolding ReduceHalved ReducedStays
reduced-stays f rs =
    ap reduce (f rs) ∙ f (halved (length rs) rs)
    ∙ whole-stays (length (halved (length rs) rs)) (halved (length rs) rs) (halved-whole (length rs) rs (omega arith))
    ∙ sym (f rs)
