-- The counts of rows, one row more at the end, and where one of the rows gains a cell.
use mathlib.Core.Path.{◌≡◌, refl, ap, ◌∙◌}
use mathlib.Core.Bool.{Bool}
use mathlib.Core.List.{List, [], ◌∷◌, ◌++◌}
use Prim.Native.Nat.{ℕ, zero, suc, ◌+◌, ◌<◌, ◌≤◌}
use native.Mathlib.Nat.{add-zero, add-suc, suc-add}
use native.Mathlib.Omega.{arith}
use lib.ListN.{length, get_or}
use Rattle.definitions.specs.Lines.{Row}
use Rattle.definitions.specs.Tracker.{Pair}
use Rattle.definitions.specs.Correction.{keep_row}
use Rattle.definitions.specs.declared.RowSum.{RowSum}
use Rattle.definitions.specs.declared.ArrowStats.{ArrowStats}
use Rattle.row_tally.specs.Raised.{with_cells}
use Rattle.paired_tally.specs.Paired.{kind_sum, counts_from}
use Rattle.paired_tally.proofs.Sums.{cells-swap}
use Rattle.paired_tally.proofs.Keep.{Same, keep-same}

module _ (plain : Bool) (J : ℕ → Bool) where
  pub counts-snoc : (ps : ℕ → List Pair) (t : ArrowStats) (i : ℕ) (rs : List Row) (r : Row)
      → counts_from plain J ps t i (rs ++ (r ∷ [])) ≡ with_cells (counts_from plain J ps t i rs) (kind_sum plain (J (i + length rs)) (keep_row ps (i + length rs) 0 r))
  counts-snoc ps t i [] r = rw add-zero
  counts-snoc ps t i (q ∷ rs) r = rw (add-suc, ← suc-add) (counts-snoc ps (with_cells t (kind_sum plain (J i) (keep_row ps i 0 q))) (suc i) rs r)

  -- more before them
  counts-more : (ps : ℕ → List Pair) (y : RowSum) (t : ArrowStats) (i : ℕ) (rs : List Row)
      → counts_from plain J ps (with_cells t y) i rs ≡ with_cells (counts_from plain J ps t i rs) y
  counts-more ps y t i [] = refl
  counts-more ps y t i (r ∷ rs) =
      let s : RowSum = kind_sum plain (J i) (keep_row ps i 0 r) in
      ap (λ u. counts_from plain J ps u (suc i) rs) (cells-swap t y s) ∙ counts-more ps y (with_cells t s) (suc i) rs

  module _ (ps ps' : ℕ → List Pair) where
    pub counts-same : (t : ArrowStats) (i : ℕ) (rs : List Row) → ((j : ℕ) → i ≤ j → Same ps ps' j) → counts_from plain J ps' t i rs ≡ counts_from plain J ps t i rs
    counts-same t i [] f = refl
    counts-same t i (r ∷ rs) f =
        rw (keep-same ps ps' i 0 r (f i (omega arith))) (counts-same (with_cells t (kind_sum plain (J i) (keep_row ps i 0 r))) (suc i) rs (λ j h. f j (omega arith)))

    -- row h gains y, and no other row anything
    gain-from : (y : RowSum) (t : ArrowStats) (i k : ℕ) (rs : List Row) → k < length rs
        → ((j : ℕ) → (j ≡ i + k → ⊥) → Same ps ps' j)
        → ((u : ArrowStats) → with_cells u (kind_sum plain (J (i + k)) (keep_row ps' (i + k) 0 (get_or rs k [])))
        ≡ with_cells (with_cells u (kind_sum plain (J (i + k)) (keep_row ps (i + k) 0 (get_or rs k [])))) y)
        → counts_from plain J ps' t i rs ≡ with_cells (counts_from plain J ps t i rs) y
    gain-from y t i k [] h f g = absurd (omega arith)
    gain-from y t i zero (r ∷ rs) h f g =
        let z : i + 0 ≡ i = omega arith in
        let s : RowSum = kind_sum plain (J i) (keep_row ps i 0 r) in
        ap (λ u. counts_from plain J ps' u (suc i) rs) (rw z at (g t))
        ∙ counts-same (with_cells (with_cells t s) y) (suc i) rs (λ j l. f j (λ e. omega arith))
        ∙ counts-more ps y (with_cells t s) (suc i) rs
    gain-from y t i (suc k) (r ∷ rs) h f g =
        let z : i + suc k ≡ suc i + k = omega arith in
        rw (keep-same ps ps' i 0 r (f i (λ e. omega arith)))
        (gain-from y (with_cells t (kind_sum plain (J i) (keep_row ps i 0 r))) (suc i) k rs (omega arith) (λ j n. f j (λ e. n (e ∙ z))) (rw z at g))

    pub counts-gain : (y : RowSum) (t : ArrowStats) (k : ℕ) (rs : List Row) → k < length rs
        → ((j : ℕ) → (j ≡ k → ⊥) → Same ps ps' j)
        → ((u : ArrowStats) → with_cells u (kind_sum plain (J k) (keep_row ps' k 0 (get_or rs k [])))
        ≡ with_cells (with_cells u (kind_sum plain (J k) (keep_row ps k 0 (get_or rs k [])))) y)
        → counts_from plain J ps' t 0 rs ≡ with_cells (counts_from plain J ps t 0 rs) y
    counts-gain y t k rs h f g =
        let z : 0 + k ≡ k = omega arith in
        gain-from y t 0 k rs h (rw z f) (rw z g)
