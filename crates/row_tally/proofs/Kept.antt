-- A row of which all heads count, and what a row adds up to where it is not judged.
use mathlib.Core.Path.{◌≡◌, refl, ap, ap₂, sym, ◌∙◌}
use mathlib.Core.Bool.{Bool, true, false, cond}
use mathlib.Core.List.{List, [], ◌∷◌}
use Prim.Native.Nat.{ℕ, suc, ◌+◌, ◌<◌}
use native.Mathlib.Omega.{arith}
use lib.Dec.{eqb}
use lib.ListN.{length}
use Rattle.std.specs.List.{count_by}
use Rattle.definitions.specs.Lists.{number_of_bool}
use Rattle.definitions.proofs.Lists.{count-cons}
use Rattle.definitions.specs.Lines.{Row}
use Rattle.definitions.specs.Cells.{cell_of, byte_at, hold_effect, mine, fake}
use Rattle.definitions.specs.Tracker.{Pair, is_head_of, hold_at}
use Rattle.definitions.specs.Tally.{counted_as, place, count_from, counted, row_sum_by}
use Rattle.definitions.specs.Correction.{head_if_paired, is_opening, keep_row}
use Rattle.definitions.specs.Judged.{is_judged_arrow, is_unjudged_fake, sum_of_fakes, judged_sum}
use Rattle.definitions.specs.declared.DepthEffect.{DepthEffect}
use Rattle.definitions.specs.declared.DepthEffect.TheVariants.{Nothing, Blocks, Opens, Closes}
use Rattle.definitions.specs.declared.Cell.{Cell}
use Rattle.definitions.specs.declared.Cell.TheVariants.{Empty, Tap, Hold, Tail, Roll, Mine, Lift, Fake, KeySound, LowerMine, LowerLift, LowerFake}
use Rattle.definitions.specs.declared.RowSum.{RowSum}

-- ---- A row of which no head is left out stays as it is
keep_one : (e : DepthEffect) (p : Bool) (b : ℕ) → (e ≡ Opens → p ≡ true) → head_if_paired e p b ≡ b
keep_one Nothing p b h = refl
keep_one Blocks p b h = refl
keep_one Opens p b h = rw (h refl)
keep_one Closes p b h = refl

pub keep-whole : (ps : ℕ → List Pair) (i c : ℕ) (r : Row) → ((k : ℕ) → k < length r → hold_at (byte_at k r) ≡ Opens → is_head_of i (ps (c + k)) ≡ true)
    → keep_row ps i c r ≡ r
keep-whole ps i c [] h = refl
keep-whole ps i c (b ∷ r) h =
    let first : c + 0 ≡ c = omega arith in
    ap₂ (λ (x : ℕ) (xs : Row). x ∷ xs)
    (keep_one (hold_at b) (is_head_of i (ps c)) b (λ o. rw first at (h 0 (omega arith) o)))
    (keep-whole ps i (suc c) r (λ k l o. let z : c + suc k ≡ suc c + k = omega arith in rw z at (h (suc k) (omega arith) o)))

-- ---- On an unjudged row each arrow, mine and fake of a judged one is one fake.
abbrev sum_fakes : RowSum → ℕ
sum_fakes s = s.arrows + s.mines + s.fakes

fake-cell : (x : Cell)
    → number_of_bool (is_unjudged_fake x) ≡ number_of_bool (is_judged_arrow x) + number_of_bool (eqb (place (counted_as x)) 4) + number_of_bool (eqb (place (counted_as x)) 6)
fake-cell Empty = refl
fake-cell Tap = refl
fake-cell Hold = refl
fake-cell Tail = refl
fake-cell Roll = refl
fake-cell Mine = refl
fake-cell Lift = refl
fake-cell Fake = refl
fake-cell KeySound = refl
fake-cell LowerMine = refl
fake-cell LowerLift = refl
fake-cell LowerFake = refl

fake-from : (c : ℕ) (r : Row)
    → count_by (λ b. is_unjudged_fake (cell_of b)) r ≡ count_from (λ c x. is_judged_arrow x) c r + counted mine r + counted fake r
fake-from c [] = refl
fake-from c (b ∷ r) =
    omega (
      arith,
      count-cons (λ x. is_unjudged_fake (cell_of x)) b r,
      count-cons (λ x. eqb (place (counted_as (cell_of x))) 4) b r,
      count-cons (λ x. eqb (place (counted_as (cell_of x))) 6) b r,
      fake-cell (cell_of b),
      fake-from (suc c) r,
    )

pub unjudged : (r : Row) → sum_of_fakes (sum_fakes (row_sum_by is_judged_arrow r)) ≡ judged_sum false r
unfolding row_sum_by judged_sum
unjudged r = ap sum_of_fakes (sym (fake-from 0 r))

-- ---- The cell of a byte that is paired, if it is a head, or not
zero-cell : cell_of 48 ≡ Empty
unfolding cell_of
zero-cell = refl

kept-by : (p : Bool) (b : ℕ) (e : DepthEffect) → cell_of (head_if_paired e p b) ≡ cond (is_opening e) (cond p (cell_of b) Empty) (cell_of b)
kept-by p b Nothing = refl
kept-by p b Blocks = refl
kept-by true b Opens = refl
kept-by false b Opens = zero-cell
kept-by p b Closes = refl

pub kept_cell : (p : Bool) (b : ℕ) (x : Cell) → cell_of b ≡ x → cell_of (head_if_paired (hold_at b) p b) ≡ cond (is_opening (hold_effect x)) (cond p x Empty) x
unfolding hold_at
kept_cell p b x e = kept-by p b (hold_effect (cell_of b)) ∙ ap (λ y. cond (is_opening (hold_effect y)) (cond p y Empty) y) e
