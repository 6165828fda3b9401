-- Tallies of rows with one row more at their end.
use mathlib.Core.Path.{◌≡◌, refl}
use mathlib.Core.Bool.{Bool}
use mathlib.Core.List.{List, [], ◌∷◌, ◌++◌}
use Prim.Native.Nat.{ℕ, suc, ◌+◌}
use native.Mathlib.Nat.{add-zero, add-suc, suc-add}
use lib.ListN.{length}
use Rattle.definitions.specs.Lines.{Row}
use Rattle.definitions.specs.Tracker.{Pair}
use Rattle.definitions.specs.Tally.{row_sum, empty_stats, tally_with_row, tally_from, tally}
use Rattle.definitions.specs.Correction.{keep_row}
use Rattle.definitions.specs.Judged.{judged_sum, judge_row, open_before, judge_from}
use Rattle.definitions.specs.declared.ArrowStats.{ArrowStats}

tally-from : (t : ArrowStats) (rows : List Row) (r : Row) → tally_from t (rows ++ (r ∷ [])) ≡ tally_with_row (tally_from t rows) (row_sum r)
tally-from t [] r = refl
tally-from t (q ∷ rows) r = tally-from (tally_with_row t (row_sum q)) rows r

pub tally-snoc : (rows : List Row) (r : Row) → tally (rows ++ (r ∷ [])) ≡ tally_with_row (tally rows) (row_sum r)
unfolding tally
tally-snoc rows r = tally-from empty_stats rows r

pub tally-none : tally [] ≡ empty_stats
unfolding tally
tally-none = refl

module _ (ps : ℕ → List Pair) where
  module _ (L : ℕ) (J : ℕ → Bool) where
    -- the judged tally t with row i
    abbrev pub judged_after : ArrowStats → ℕ → Row → ArrowStats
    judged_after t i r = judge_row t (J i) (open_before L J ps i) (judged_sum (J i) (keep_row ps i 0 r))

    pub judge-snoc : (t : ArrowStats) (i : ℕ) (rows : List Row) (r : Row)
        → judge_from L J ps t i (rows ++ (r ∷ [])) ≡ judged_after (judge_from L J ps t i rows) (i + length rows) r
    judge-snoc t i [] r = rw add-zero
    judge-snoc t i (q ∷ rows) r = rw (add-suc, ← suc-add) (judge-snoc (judged_after t i q) (suc i) rows r)
