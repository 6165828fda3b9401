-- A head's cell by its number, and what a cell pairs with.
use mathlib.Core.Path.{◌≡◌, refl, sym, ap, ◌∙◌}
use mathlib.Core.Bool.{Bool, true, false, cond, false≢true}
use mathlib.Core.List.{List, [], ◌∷◌}
use Prim.Native.Nat.{ℕ, ◌%◌}
use native.Mathlib.Omega.{arith}
use borrow.Author.Tests.{eqb-true, eq-eqb, ne_eqb}
use lib.Dec.{eqb}
use Rattle.definitions.specs.Lists.{number_of_bool}
use Rattle.definitions.specs.Cells.{cell_of, hold_effect}
use Rattle.definitions.specs.Tracker.{Pair, paired, hold_at}
use Rattle.definitions.specs.Correction.{is_opening}
use Rattle.definitions.specs.declared.Cell.{Cell}
use Rattle.definitions.specs.declared.Cell.TheVariants.{Hold, Roll}
use Rattle.definitions.specs.declared.DepthEffect.{DepthEffect}
use Rattle.definitions.specs.declared.DepthEffect.TheVariants.{Nothing, Blocks, Opens, Closes}
use Rattle.paired_tally.specs.Paired.{head_number}
use Rattle.paired_tally.specs.Cells.{head_cell}
use Rattle.paired_tally.proofs.Numbers.{halves}

-- a head that is no `4` is a hold
abbrev HoldIfHead : Cell → Type 0
HoldIfHead x = is_opening (hold_effect x) ≡ true → x ≡ Hold

either : (t : Bool) {x y : Cell} → HoldIfHead x → HoldIfHead y → HoldIfHead (cond t x y)
either true p q = p
either false p q = q

no-head : {x : Cell} → is_opening (hold_effect x) ≡ false → HoldIfHead x
no-head e o = absurd (false≢true (sym e ∙ o))

hold-told : (b : ℕ) → eqb b 52 ≡ false → is_opening (hold_at b) ≡ true → cell_of b ≡ Hold
unfolding cell_of hold_at
hold-told b e =
    rw e
    (either (eqb b 49) (no-head refl) (either (eqb b 50) (λ o. refl) (either (eqb b 51) (no-head refl) (either (eqb b 77) (no-head refl)
    (either (eqb b 76) (no-head refl) (either (eqb b 70) (no-head refl) (either (eqb b 75) (no-head refl) (either (eqb b 109) (no-head refl)
    (either (eqb b 108) (no-head refl) (either (eqb b 102) (no-head refl) (no-head refl)))))))))))

roll-told : cell_of 52 ≡ Roll
unfolding cell_of
roll-told = refl

pub number-told : (v h b : ℕ) → v ≡ head_number h b → hold_at b ≡ Opens → cell_of b ≡ head_cell v
number-told v h b e o = go (eqb b 52) refl
  where
    go : (r : Bool) → eqb b 52 ≡ r → cell_of b ≡ head_cell v
    go true q =
        let odd : v % 2 ≡ 1 = omega (arith, ap number_of_bool q) in
        ap cell_of (eqb-true b 52 q) ∙ roll-told ∙ sym (ap (λ x. cond x Roll Hold) (eq-eqb (v % 2) 1 odd))
    go false q =
        let even : (v % 2 ≡ 1 → ⊥) = λ z. omega (arith, ap number_of_bool q) in
        hold-told b q (ap is_opening o) ∙ sym (ap (λ x. cond x Roll Hold) (ne_eqb (v % 2) 1 even))

-- the effect of a byte is its cell's
pub effect-of : (b : ℕ) {x : Cell} → x ≡ cell_of b → hold_at b ≡ hold_effect x
unfolding hold_at
effect-of b e = ap hold_effect (sym e)

-- a hold is no `4`, and a roll is one
pub hold-byte : (b : ℕ) → Hold ≡ cell_of b → 0 ≡ number_of_bool (eqb b 52)
hold-byte b e = go (eqb b 52) refl
  where
    go : (r : Bool) → eqb b 52 ≡ r → 0 ≡ number_of_bool r
    go true q = let same : Hold ≡ Roll = e ∙ ap cell_of (eqb-true b 52 q) ∙ roll-told in absurd cc
    go false q = refl

pub roll-byte : (b : ℕ) → Roll ≡ cell_of b → 1 ≡ number_of_bool (eqb b 52)
roll-byte b e = go (eqb b 52) refl
  where
    go : (r : Bool) → eqb b 52 ≡ r → 1 ≡ number_of_bool r
    go true q = refl
    go false q = let same : Roll ≡ Hold = e ∙ hold-told b q (ap is_opening (effect-of b e)) in absurd cc

-- ---- What a cell pairs with
pub pairs-none : (e : DepthEffect) (v n : ℕ) (st : List ℕ) → [] ≡ paired e v st → paired e n (halves st) ≡ []
pairs-none Nothing v n st h = refl
pairs-none Blocks v n st h = refl
pairs-none Opens v n st h = refl
pairs-none Closes v n [] h = refl
pairs-none Closes v n (x ∷ st) h = absurd cc

pub record Popped (v : ℕ) (st : List ℕ) : Type 0 where
  pub rest : List ℕ
  pub shown : st ≡ v ∷ rest

abbrev first-head : List Pair → ℕ
first-head [] = 0
first-head (p ∷ ps) = p.head

pub popped : (v n : ℕ) (st : List ℕ) → record { head = v; tail = n } ∷ [] ≡ paired Closes n st → Popped v st
popped v n [] h = absurd cc
popped v n (x ∷ st) h = let e : v ≡ x = ap first-head h in record { rest = st; shown = ap (λ y. y ∷ st) (sym e) }
