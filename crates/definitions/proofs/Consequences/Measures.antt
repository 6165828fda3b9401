-- The measures round the damaged one.
use mathlib.Core.List.{List}
use Prim.Native.Nat.{ℕ}
use native.Mathlib.Omega.{arith}
use Rattle.definitions.specs.Damage.{SameBut, DamageStays}
use Rattle.definitions.specs.Consequences.{SameAround, MeasuresAround}
use Rattle.definitions.proofs.Consequences.Places.{before-place, after-place}

same-around : {A : Type 0} {d : ℕ} (s t : List A) → SameBut d s t → SameAround d s t
same-around {d = d} s t h =
    (omega (arith, h.count), before-place d s t (λ i l. h.others i (omega (arith, l))), after-place d s t (λ i l. h.others i (omega (arith, l))))

pub measures-around : {L d : ℕ} {old new : List ℕ} → DamageStays L d old new → MeasuresAround L d old new
measures-around x = (same-around _ _ x.same_rows, same-around _ _ x.same_beats, same-around _ _ x.same_density, same-around _ _ x.same_spacing)
