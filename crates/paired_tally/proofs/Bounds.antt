-- How large the counts and the entries are.
use mathlib.Core.Bool.{Bool, true, false}
use mathlib.Core.List.{List, [], ◌∷◌}
use Prim.Native.Nat.{ℕ, suc, ◌+◌, ◌*◌, ◌≤◌, ◌<◌}
use native.Mathlib.Decide.{dec_lt}
use native.Mathlib.Omega.{arith}
use lib.Dec.{leb}
use lib.ListN.{length, get_or}
use Rattle.definitions.specs.Lines.{Row}
use Rattle.definitions.specs.Tracker.{Pair, pairs}
use Rattle.definitions.specs.Tally.{empty_stats}
use Rattle.definitions.specs.Correction.{keep_row}
use Rattle.definitions.specs.declared.RowSum.{RowSum}
use Rattle.definitions.specs.declared.ArrowStats.{ArrowStats}
use Rattle.definitions.proofs.Lists.{one-le}
use Rattle.definitions.proofs.RowBounds.{keep-wide}
use Rattle.holds.specs.Tracks.{ends_at}
use Rattle.holds.proofs.Opens.{ends-few}
use Rattle.row_tally.specs.Bounds.{Under, Below}
use Rattle.row_tally.specs.Raised.{with_cells}
use Rattle.row_tally.proofs.Bounds.{under-row, under-judged, below_more, below_none}
use Rattle.row_tally.proofs.Raised.{below-cells}
use Rattle.paired_tally.specs.declared.PairedTally.{PairedTally}
use Rattle.paired_tally.specs.Entry.{entry_of}
use Rattle.paired_tally.specs.Paired.{kind_sum, counts_from, sum_at, PairedRows}

-- ---- A row's sum
kind-under : (plain judged : Bool) (r : Row) → length r ≤ 10 → Under 10 (kind_sum plain judged r)
kind-under true judged r h = under-row 10 r h
kind-under false judged r h = under-judged 10 judged r h

-- ---- The counts
counts-below : (plain : Bool) (J : ℕ → Bool) (ps : ℕ → List Pair) (k : ℕ) (t : ArrowStats) (i : ℕ) (rs : List Row)
    → ((j : ℕ) → j < length rs → length (get_or rs j []) ≤ 10) → Below k t → Below (k + 10 * length rs) (counts_from plain J ps t i rs)
counts-below plain J ps k t i [] w b = below_more k (k + 10 * 0) t (omega arith) b
counts-below plain J ps k t i (r ∷ rs) w b =
    below_more (k + 10 + 10 * length rs) (k + 10 * suc (length rs)) _ (omega arith)
    (counts-below plain J ps (k + 10) (with_cells t (kind_sum plain (J i) (keep_row ps i 0 r))) (suc i) rs (λ j h. w (suc j) (omega arith))
    (below-cells k 10 t _ b (kind-under plain (J i) (keep_row ps i 0 r) (rw keep-wide (w 0 (omega arith))))))

-- ---- The entries
pub entry_low : (plain judged : Bool) (s : RowSum) (ends : ℕ) → Under 10 s → ends ≤ 10 → entry_of plain judged s ends ≤ 15018
entry_low true judged s ends u h = omega (arith, u)
entry_low false true s ends u h = omega (arith, u, one-le (leb 1 (s.mines + s.fakes)))
entry_low false false s ends u h = omega arith

module _ {plain : Bool} {J : ℕ → Bool} {L : ℕ} {rows : List Row} {t : PairedTally} {work : List ℕ} (s : PairedRows plain J L rows t work) (narrow : L ≤ 10) where
  pub row-under : (i : ℕ) → i < length rows → Under 10 (sum_at plain J (pairs rows) rows i)
  row-under i h = kind-under plain (J i) (keep_row (pairs rows) i 0 (get_or rows i [])) (rw keep-wide (omega (arith, s.wide i h)))

  pub entries_low : (i : ℕ) → get_or work i 0 ≤ 15018
  entries_low i =
      elim (dec_lt i (length rows)) [
        | yes h ↦ rw (s.entries i h) (entry_low plain (J i) _ (ends_at J rows i) (row-under i h) (ends-few J rows i))
        | no h ↦ omega (arith, s.later i (omega arith))
      ]

  pub paired-below : Below (10 * length rows) t.stats
  paired-below =
      rw s.stats
      (below_more (0 + 10 * length rows) (10 * length rows) _ (omega arith)
      (counts-below plain J (pairs rows) 0 empty_stats 0 rows (λ j h. omega (arith, s.wide j h)) below_none))
