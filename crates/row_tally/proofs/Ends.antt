-- The cells of all rows and then their ends are the tally of the rows: an end raises other counts than the cells.
use mathlib.Core.Path.{◌≡◌, refl, ap, sym, ◌∙◌}
use mathlib.Core.Bool.{Bool, ◌&&◌}
use mathlib.Core.List.{List, [], ◌∷◌}
use Prim.Native.Nat.{ℕ, zero, suc, ◌+◌, ◌≤◌}
use native.Mathlib.Nat.{zero-add, add_assoc}
use native.Mathlib.Omega.{arith}
use borrow.Author.Tests.{le-leb}
use lib.Dec.{leb}
use Rattle.definitions.specs.Lines.{Row}
use Rattle.definitions.specs.Tracker.{Pair}
use Rattle.definitions.specs.Tally.{row_sum, tally_with_row}
use Rattle.definitions.specs.Correction.{keep_row}
use Rattle.definitions.specs.Judged.{judged_sum, judge_row}
use Rattle.definitions.specs.declared.RowSum.{RowSum}
use Rattle.definitions.specs.declared.ArrowStats.{ArrowStats}
use Rattle.definitions.proofs.Lists.{one-le}
use Rattle.row_tally.specs.Bounds.{EndsBelow}
use Rattle.row_tally.specs.Ends.{cells_from}
use Rattle.row_tally.specs.Raised.{with_cells, with_end, row_end, judged_row_end}

module _ (S : ℕ → Row → RowSum) where
  -- what the ends go by is not raised
  pub cells-from-ends : (k : ℕ) (t : ArrowStats) (i : ℕ) (rows : List Row) → EndsBelow k t → EndsBelow k (cells_from S t i rows)
  unfolding with_cells
  cells-from-ends k t i [] b = b
  cells-from-ends k t i (r ∷ rows) b = cells-from-ends k (with_cells t (S i r)) (suc i) rows b

  -- the end of a row may come before the cells of others
  pub plain-early : (t : ArrowStats) (i : ℕ) (rows : List Row) (arrows heads tails : ℕ)
      → row_end (cells_from S t i rows) arrows heads tails ≡ cells_from S (row_end t arrows heads tails) i rows
  unfolding with_cells with_end
  plain-early t i [] arrows heads tails = refl
  plain-early t i (r ∷ rows) arrows heads tails = plain-early (with_cells t (S i r)) (suc i) rows arrows heads tails

  pub judged-early : (t : ArrowStats) (i : ℕ) (rows : List Row) (judged : Bool) (arrows others held : ℕ)
      → judged_row_end (cells_from S t i rows) judged arrows others held ≡ cells_from S (judged_row_end t judged arrows others held) i rows
  unfolding with_cells with_end
  judged-early t i [] judged arrows others held = refl
  judged-early t i (r ∷ rows) judged arrows others held = judged-early (with_cells t (S i r)) (suc i) rows judged arrows others held

-- a row's cells and its end
whole-row : (t : ArrowStats) (s : RowSum) → row_end (with_cells t s) s.arrows (s.holds + s.rolls) s.tails ≡ tally_with_row t s
unfolding with_cells with_end tally_with_row
whole-row t s = refl

whole-judged : (t : ArrowStats) (judged : Bool) (held : ℕ) (s : RowSum) → judged_row_end (with_cells t s) judged s.arrows (s.mines + s.fakes) held ≡ judge_row t judged held s
unfolding with_cells with_end judge_row
whole-judged t judged held s = rw add_assoc

-- whether there are others is all that an end asks of them
pub others-told : (t : ArrowStats) (judged : Bool) (arrows others others' held : ℕ) → leb 1 others ≡ leb 1 others'
    → judged_row_end t judged arrows others held ≡ judged_row_end t judged arrows others' held
others-told t judged arrows others others' held e = ap (λ b. with_end t arrows (judged && (b && leb 3 (arrows + held))) 0) (either arrows)
  where
    either : (a : ℕ) → leb 1 (a + others) ≡ leb 1 (a + others')
    either zero = rw (zero-add others, zero-add others') e
    either (suc a) = le-leb 1 (suc a + others) (omega arith) ∙ sym (le-leb 1 (suc a + others') (omega arith))

module _ (ps : ℕ → List Pair) where
  -- ---- A plain tally of rows with their paired heads
  abbrev pub plain_sum : ℕ → Row → RowSum
  plain_sum i r = row_sum (keep_row ps i 0 r)

  -- What is left to be told is the ends of the rows from i on: one row less.
  pub plain-next : (t : ArrowStats) (i : ℕ) (r : Row) (rows : List Row) (arrows heads tails : ℕ)
      → arrows ≡ (plain_sum i r).arrows → heads ≡ (plain_sum i r).holds + (plain_sum i r).rolls → tails ≡ (plain_sum i r).tails
      → row_end (cells_from plain_sum t i (r ∷ rows)) arrows heads tails ≡ cells_from plain_sum (tally_with_row t (plain_sum i r)) (suc i) rows
  plain-next t i r rows arrows heads tails a h l =
      plain-early plain_sum (with_cells t (plain_sum i r)) (suc i) rows arrows heads tails
      ∙ ap (λ u. cells_from plain_sum u (suc i) rows) (rw (a, h, l) (whole-row t (plain_sum i r)))

  -- ---- A judged tally, where J says which rows are judged
  module _ (J : ℕ → Bool) where
    abbrev pub judged_sum_at : ℕ → Row → RowSum
    judged_sum_at i r = judged_sum (J i) (keep_row ps i 0 r)

    pub judged-next : (t : ArrowStats) (i : ℕ) (r : Row) (rows : List Row) (held : ℕ)
        → judged_row_end (cells_from judged_sum_at t i (r ∷ rows)) (J i) (judged_sum_at i r).arrows ((judged_sum_at i r).mines + (judged_sum_at i r).fakes) held
        ≡ cells_from judged_sum_at (judge_row t (J i) held (judged_sum_at i r)) (suc i) rows
    judged-next t i r rows held =
        judged-early judged_sum_at (with_cells t (judged_sum_at i r)) (suc i) rows (J i) _ _ held
        ∙ ap (λ u. cells_from judged_sum_at u (suc i) rows) (whole-judged t (J i) held (judged_sum_at i r))

-- ---- How large what the ends go by is: ten more at most with each row
module _ (k : ℕ) (t : ArrowStats) (b : EndsBelow k t) where
  pub ends-plain : (arrows heads tails : ℕ) → heads ≤ 10 → EndsBelow (k + 10) (row_end t arrows heads tails)
  unfolding with_end
  ends-plain arrows heads tails h =
      let a = one-le (leb 1 arrows) in
      let j = one-le (leb 2 arrows) in
      let n = one-le (leb 1 arrows && leb 3 (arrows + t.holding)) in
      omega arith

  pub ends-judged : (judged : Bool) (arrows others held : ℕ) → EndsBelow (k + 10) (judged_row_end t judged arrows others held)
  unfolding with_end
  ends-judged judged arrows others held =
      let a = one-le (leb 1 arrows) in
      let j = one-le (leb 2 arrows) in
      let n = one-le (judged && (leb 1 (arrows + others) && leb 3 (arrows + held))) in
      omega arith
