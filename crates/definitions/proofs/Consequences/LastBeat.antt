-- The last beat, where the later measures tell it.
use mathlib.Core.Path.{◌≡◌, refl, ap, sym, subst}
use mathlib.Core.Bool.{Bool, true, false, cond}
use mathlib.Core.List.{List, [], ◌∷◌}
use Prim.Native.Nat.{ℕ, zero, suc, ◌<◌}
use native.Mathlib.Omega.{arith}
use borrow.Author.Tests.{ne_eqb}
use Rattle.std.specs.Prelude.{Option, None, Some}
use Rattle.std.specs.Float.{binary64}
use Rattle.std.specs.Float.Ieee.{to_bits}
use Rattle.definitions.specs.Lists.{among}
use Rattle.definitions.specs.Lines.{Row}
use Rattle.definitions.specs.Cells.{byte_at}
use Rattle.definitions.specs.Damage.{DamageStays, all_later, byte_in, object, HoldObject, ObjectFirst}
use Rattle.definitions.specs.Consequences.{first_met, SameLastBeat}

abbrev met : ℕ → Bool
met b = among b (49 ∷ 51 ∷ 77 ∷ 76 ∷ 70 ∷ 75 ∷ [])

-- what is met and is no 3 is an object
object-met : (b : ℕ) → met b ≡ true → (b ≡ 51 → ⊥) → object b ≡ true
unfolding object
object-met b e n = rw (ne_eqb b 51 n) at e

three-met : (b : ℕ) (o : Option ℕ) → b ≡ 51 → cond (met b) (Some b) o ≡ Some 51
three-met b o e = subst (λ b. cond (met b) (Some b) o ≡ Some 51) (sym e) refl

-- Of a column in which the first that is met is no 3: where one is met at all there is an object, and one stands before each 3.
module _ (c : ℕ) where
  object-there : (rows : List Row) → (first_met c rows ≡ Some 51 → ⊥) → (first_met c rows ≡ None → ⊥) → (i : ℕ) × (object (byte_in rows i c) ≡ true)
  object-there [] h n = absurd (n refl)
  object-there (r ∷ rows) h n = go (met (byte_at c r)) refl h n (λ h n. object-there rows h n)
    where
      go : (t : Bool) → met (byte_at c r) ≡ t
          → (cond t (Some (byte_at c r)) (first_met c rows) ≡ Some 51 → ⊥)
          → (cond t (Some (byte_at c r)) (first_met c rows) ≡ None → ⊥)
          → ((first_met c rows ≡ Some 51 → ⊥) → (first_met c rows ≡ None → ⊥) → (i : ℕ) × (object (byte_in rows i c) ≡ true))
          → (i : ℕ) × (object (byte_in (r ∷ rows) i c) ≡ true)
      go true e h n f = (0, object-met (byte_at c r) e (λ three. h (ap Some three)))
      go false e h n f = let x = f h n in (suc x.0, x.1)

  object-before : (rows : List Row) → (first_met c rows ≡ Some 51 → ⊥) → (i : ℕ) → byte_in rows i c ≡ 51
      → (j : ℕ) × (j < i) × (object (byte_in rows j c) ≡ true)
  object-before [] h i e = absurd (omega (arith, e))
  object-before (r ∷ rows) h zero e = absurd (h (three-met (byte_at c r) (first_met c rows) e))
  object-before (r ∷ rows) h (suc i) e = go (met (byte_at c r)) refl h (λ h. object-before rows h i e)
    where
      go : (t : Bool) → met (byte_at c r) ≡ t
          → (cond t (Some (byte_at c r)) (first_met c rows) ≡ Some 51 → ⊥)
          → ((first_met c rows ≡ Some 51 → ⊥) → (j : ℕ) × (j < i) × (object (byte_in rows j c) ≡ true))
          → (j : ℕ) × (j < suc i) × (object (byte_in (r ∷ rows) j c) ≡ true)
      go true e h f = (0, omega arith, object-met (byte_at c r) e (λ three. h (ap Some three)))
      go false e h f = let x = f h in (suc x.0, omega (arith, x.1), x.2)

pub same-last-beat : {L d : ℕ} {old new : List ℕ} → DamageStays L d old new → SameLastBeat L d old new
unfolding HoldObject ObjectFirst
same-last-beat {L} {d} {old} {new} x h c n =
    let rows : List Row = all_later L d old in
    let some : HoldObject rows = (c, object-there c rows (h c) n) in
    let first : ObjectFirst rows = λ c. object-before c rows (h c) in
    (ap (to_bits binary64) (x.same_last some first), x.same_last48 some first)
