-- The heads and tails of a row by its sum: they are the cells that open and close.
use mathlib.Core.Path.{◌≡◌, refl}
use mathlib.Core.Bool.{Bool}
use mathlib.Core.List.{[], ◌∷◌}
use Prim.Native.Nat.{◌+◌}
use native.Mathlib.Omega.{arith}
use lib.Dec.{eqb}
use Rattle.std.specs.List.{count_by}
use Rattle.definitions.proofs.Lists.{count-cons}
use Rattle.definitions.specs.Lists.{number_of_bool}
use Rattle.definitions.specs.Lines.{Row}
use Rattle.definitions.specs.Cells.{cell_of, hold_effect, hold, roll, tail}
use Rattle.definitions.specs.Tracker.{hold_at}
use Rattle.definitions.specs.Tally.{counted_as, place, counted, row_sum_by}
use Rattle.definitions.specs.Correction.{is_opening, is_closing}
use Rattle.definitions.specs.declared.Cell.{Cell}
use Rattle.definitions.specs.declared.Cell.TheVariants.{Empty, Tap, Hold, Tail, Roll, Mine, Lift, Fake, KeySound, LowerMine, LowerLift, LowerFake}

head-cell : (x : Cell)
    → number_of_bool (is_opening (hold_effect x)) ≡ number_of_bool (eqb (place (counted_as x)) 1) + number_of_bool (eqb (place (counted_as x)) 2)
head-cell Empty = refl
head-cell Tap = refl
head-cell Hold = refl
head-cell Tail = refl
head-cell Roll = refl
head-cell Mine = refl
head-cell Lift = refl
head-cell Fake = refl
head-cell KeySound = refl
head-cell LowerMine = refl
head-cell LowerLift = refl
head-cell LowerFake = refl

tail-cell : (x : Cell) → number_of_bool (is_closing (hold_effect x)) ≡ number_of_bool (eqb (place (counted_as x)) 3)
tail-cell Empty = refl
tail-cell Tap = refl
tail-cell Hold = refl
tail-cell Tail = refl
tail-cell Roll = refl
tail-cell Mine = refl
tail-cell Lift = refl
tail-cell Fake = refl
tail-cell KeySound = refl
tail-cell LowerMine = refl
tail-cell LowerLift = refl
tail-cell LowerFake = refl

heads-counted : (r : Row) → count_by (λ b. is_opening (hold_at b)) r ≡ counted hold r + counted roll r
unfolding hold_at
heads-counted [] = refl
heads-counted (b ∷ r) =
    omega (
      arith,
      count-cons (λ x. is_opening (hold_at x)) b r,
      count-cons (λ x. eqb (place (counted_as (cell_of x))) 1) b r,
      count-cons (λ x. eqb (place (counted_as (cell_of x))) 2) b r,
      head-cell (cell_of b),
      heads-counted r,
    )

tails-counted : (r : Row) → count_by (λ b. is_closing (hold_at b)) r ≡ counted tail r
unfolding hold_at
tails-counted [] = refl
tails-counted (b ∷ r) =
    omega (
      arith,
      count-cons (λ x. is_closing (hold_at x)) b r,
      count-cons (λ x. eqb (place (counted_as (cell_of x))) 3) b r,
      tail-cell (cell_of b),
      tails-counted r,
    )

-- whichever cells are arrows
module _ (arrow : Cell → Bool) (r : Row) where
  pub sum-heads : count_by (λ b. is_opening (hold_at b)) r ≡ (row_sum_by arrow r).holds + (row_sum_by arrow r).rolls
  unfolding row_sum_by
  sum-heads = heads-counted r

  pub sum-tails : count_by (λ b. is_closing (hold_at b)) r ≡ (row_sum_by arrow r).tails
  unfolding row_sum_by
  sum-tails = tails-counted r
