-- The arrows of each tally are those of its six directions.
use mathlib.Core.Path.{◌≡◌, refl}
use mathlib.Core.Bool.{Bool, true, false, cond, ◌&&◌}
use mathlib.Core.List.{List, [], ◌∷◌}
use Prim.Native.Nat.{ℕ, zero, suc, ◌+◌, ◌%◌, ◌<◌}
use native.Mathlib.Omega.{arith}
use lib.Dec.{eqb}
use lib.ListN.{length, get_or}
use Rattle.definitions.specs.Lists.{number_of_bool}
use Rattle.definitions.specs.Lines.{Row}
use Rattle.definitions.specs.Cells.{cell_of, is_arrow}
use Rattle.definitions.specs.Tracker.{Pair, pairs}
use Rattle.definitions.specs.Tally.{count_from, six_columns, direction, row_sum_by, row_sum, empty_stats, tally_with_row, tally_from, tally}
use Rattle.definitions.specs.Correction.{keep_row, corrects, paired_only, tally_with_steps, corrected}
use Rattle.definitions.specs.Judged.{is_judged_arrow, judged_sum, judge_row, open_before, judge_from, judged_rows, judged_tally, flagged_tally}
use Rattle.definitions.specs.ReadBack.{main_tally, kept_tally}
use Rattle.definitions.specs.Directions.{SumOfDirections, DirectionsSum}
use Rattle.definitions.specs.declared.Cell.{Cell}
use Rattle.definitions.specs.declared.RowSum.{RowSum}
use Rattle.definitions.specs.declared.ArrowStats.{ArrowStats}

-- a table entry is one of six
six-below : (c : ℕ) → get_or six_columns c 0 < 6
six-below zero = omega arith
six-below (suc zero) = omega arith
six-below (suc (suc zero)) = omega arith
six-below (suc (suc (suc zero))) = omega arith
six-below (suc (suc (suc (suc zero)))) = omega arith
six-below (suc (suc (suc (suc (suc zero))))) = omega arith
six-below (suc (suc (suc (suc (suc (suc c)))))) = omega arith

direction-below : (L c : ℕ) → direction L c < 6
unfolding direction
direction-below L c = go (eqb L 6)
  where
    go : (t : Bool) → cond t (get_or six_columns c 0) (c % 4) < 6
    go true = six-below c
    go false = omega arith

-- one of six directions is met once
one-way : (t : Bool) (d : ℕ) → d < 6
    → number_of_bool (t && eqb d 0) + number_of_bool (t && eqb d 1) + number_of_bool (t && eqb d 2) + number_of_bool (t && eqb d 3)
    + number_of_bool (t && eqb d 4) + number_of_bool (t && eqb d 5) ≡ number_of_bool t
one-way false d h = refl
one-way true zero h = refl
one-way true (suc zero) h = refl
one-way true (suc (suc zero)) h = refl
one-way true (suc (suc (suc zero))) h = refl
one-way true (suc (suc (suc (suc zero)))) h = refl
one-way true (suc (suc (suc (suc (suc zero))))) h = refl
one-way true (suc (suc (suc (suc (suc (suc d)))))) h = absurd (omega arith)

-- the arrows of a row that point one way
abbrev towards : (Cell → Bool) → ℕ → ℕ → ℕ → Row → ℕ
towards arrow L d c r = count_from (λ c x. arrow x && eqb (direction L c) d) c r

row-ways : (arrow : Cell → Bool) (L c : ℕ) (r : Row)
    → towards arrow L 0 c r + towards arrow L 1 c r + towards arrow L 2 c r + towards arrow L 3 c r + towards arrow L 4 c r + towards arrow L 5 c r
    ≡ count_from (λ c x. arrow x) c r
row-ways arrow L c [] = refl
row-ways arrow L c (b ∷ r) = omega (arith, one-way (arrow (cell_of b)) (direction L c) (direction-below L c), row-ways arrow L (suc c) r)

abbrev SumOfWays : RowSum → Type 0
SumOfWays s = s.left + s.down + s.up + s.right + s.up_left + s.up_right ≡ s.arrows

sum-ways : (arrow : Cell → Bool) (r : Row) → SumOfWays (row_sum_by arrow r)
unfolding row_sum_by
sum-ways arrow r = row-ways arrow (length r) 0 r

tally-ways : (t : ArrowStats) (rows : List Row) → SumOfDirections t → SumOfDirections (tally_from t rows)
unfolding row_sum tally_with_row
tally-ways t [] h = h
tally-ways t (r ∷ rows) h = tally-ways (tally_with_row t (row_sum r)) rows (omega (arith, sum-ways is_arrow r))

plain-ways : (rows : List Row) → SumOfDirections (tally rows)
unfolding tally
plain-ways rows = tally-ways empty_stats rows refl

corrected-ways : (L : ℕ) (rows back : List Row) → SumOfDirections (corrected L rows back)
unfolding corrected
corrected-ways L rows back = go (corrects L rows)
  where
    go : (t : Bool) → SumOfDirections (cond t (tally_with_steps (tally rows).total_steps (tally (paired_only back))) (tally rows))
    go true = plain-ways (paired_only back)
    go false = plain-ways rows

judged-ways : (judged : Bool) (r : Row) → SumOfWays (judged_sum judged r)
unfolding judged_sum
judged-ways true r = sum-ways is_judged_arrow r
judged-ways false r = refl

module _ (L : ℕ) (J : ℕ → Bool) (ps : ℕ → List Pair) where
  judge-ways : (t : ArrowStats) (i : ℕ) (rows : List Row) → SumOfDirections t → SumOfDirections (judge_from L J ps t i rows)
  unfolding judge_row
  judge-ways t i [] h = h
  judge-ways t i (r ∷ rows) h =
      judge-ways (judge_row t (J i) (open_before L J ps i) (judged_sum (J i) (keep_row ps i 0 r))) (suc i) rows
      (omega (arith, judged-ways (J i) (keep_row ps i 0 r)))

all-judged : (L : ℕ) (J : ℕ → Bool) (rows : List Row) → SumOfDirections (judged_rows L J rows)
unfolding judged_rows
all-judged L J rows = judge-ways L J (pairs rows) empty_stats 0 rows refl

pub directions-sum : (L : ℕ) (text flags : List ℕ) → DirectionsSum L text flags
unfolding main_tally kept_tally judged_tally flagged_tally
directions-sum L text flags =
    record {
      main = corrected-ways L _ _;
      kept = corrected-ways L _ _;
      judged = all-judged L _ _;
      flagged = all-judged L _ _;
    }
