-- The arrows as tests of a byte, and a row's test by std's search.
use mathlib.Core.Path.{◌≡◌, refl, sym, ap}
use mathlib.Core.List.{[], ◌∷◌}
use mathlib.Core.Bool.{Bool, true, false, cond, ◌||◌}
use Prim.Native.Nat.{ℕ}
use native.Mathlib.Omega.{arith}
use lib.Dec.{eqb}
use borrow.Author.Tests.{eqb-true, ne_eqb}
use Rattle.std.specs.List.{list_any}
use Rattle.definitions.specs.Lines.{Row}
use Rattle.definitions.specs.Cells.{cell_of, is_arrow}
use Rattle.definitions.specs.Figures.{is_step}
use Rattle.definitions.specs.declared.Cell.{Cell}
use Rattle.definitions.specs.declared.Cell.TheVariants.{Empty, Tap, Hold, Tail, Roll, Mine, Lift, Fake, KeySound, LowerMine, LowerLift, LowerFake}

-- none of the letters after `4` is an arrow
later : (p q r s t u v : Bool)
    → is_arrow (cond p Mine (cond q Lift (cond r Fake (cond s KeySound (cond t LowerMine (cond u LowerLift (cond v LowerFake Empty)))))))
    ≡ false
later true q r s t u v = refl
later false true r s t u v = refl
later false false true s t u v = refl
later false false false true t u v = refl
later false false false false true u v = refl
later false false false false false true v = refl
later false false false false false false true = refl
later false false false false false false false = refl

first : (p q r s : Bool) (x : Cell) → (r ≡ true → s ≡ false) → is_arrow x ≡ false
    → ((p || q) || s) ≡ is_arrow (cond p Tap (cond q Hold (cond r Tail (cond s Roll x))))
first true q r s x n h = refl
first false true r s x n h = refl
first false false true s x n h = n refl
first false false false true x n h = refl
first false false false false x n h = sym h

pub arrow_byte : (b : ℕ) → ((eqb b 49 || eqb b 50) || eqb b 52) ≡ is_arrow (cell_of b)
unfolding cell_of
arrow_byte b =
    first (eqb b 49) (eqb b 50) (eqb b 51) (eqb b 52) _
    (λ e. ne_eqb b 52 (λ f. omega (arith, eqb-true b 51 e)))
    (later (eqb b 77) (eqb b 76) (eqb b 70) (eqb b 75) (eqb b 109) (eqb b 108) (eqb b 102))

-- a step by std's search
pub step-any : (r : Row) → list_any (λ b. is_arrow (cell_of b)) r ≡ is_step r
unfolding is_step
step-any [] = refl
step-any (b ∷ r) = ap (λ t. is_arrow (cell_of b) || t) (step-any r)
