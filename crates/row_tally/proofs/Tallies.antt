-- How large the counts of a whole tally are: ten times the rows at most, where no row is wider than ten cells.
use Rattle.std.proofs.Common.{Bool, true, false, cond, ℕ, suc, ◌+◌, ◌*◌, ◌≤◌, List, length, arith}
use Rattle.definitions.specs.Lines.{Row}
use Rattle.definitions.specs.Tracker.{Pair, pairs}
use Rattle.definitions.specs.Tally.{empty_stats, row_sum, tally_with_row, tally_from, tally}
use Rattle.definitions.specs.Correction.{keep_row, keep_from, tally_with_steps, corrects, paired_only, corrected}
use Rattle.definitions.specs.Judged.{open_before, judged_sum, judge_row, judge_from, judged_rows}
use Rattle.definitions.specs.declared.ArrowStats.{ArrowStats}
use Rattle.definitions.proofs.Lists.{All, none, one}
use Rattle.definitions.proofs.RowBounds.{keep-wide, keep-many, keep-narrow}
use Rattle.row_tally.specs.Bounds.{Below}
use Rattle.row_tally.proofs.Bounds.{below_more, below_none, below-line, below-judged-line}

-- rows of at most ten cells
abbrev pub Narrow : List Row → Type 0
Narrow rows = All (λ (r : Row). length r ≤ 10) rows

-- ---- The plain tally
tally-below : (k : ℕ) (t : ArrowStats) {rows : List Row} → Narrow rows → Below k t → Below (k + 10 * length rows) (tally_from t rows)
tally-below k t none b = below_more k (k + 10 * 0) t (omega arith) b
tally-below k t (one {a = r} {l = rs} w a) b =
    below_more (k + 10 + 10 * length rs) (k + 10 * suc (length rs)) _ (omega arith) (tally-below (k + 10) (tally_with_row t (row_sum r)) a (below-line k t r w b))

plain-below : (n : ℕ) {rows : List Row} → Narrow rows → length rows ≤ n → Below (10 * n) (tally rows)
unfolding tally
plain-below n {rows} a few = below_more (0 + 10 * length rows) (10 * n) _ (omega arith) (tally-below 0 empty_stats a below_none)

-- ---- The corrected tally, which keeps the plain tally's steps
steps-below : (k n : ℕ) (t : ArrowStats) → n ≤ k → Below k t → Below k (tally_with_steps n t)
steps-below k n t h b = omega arith

pub corrected-below : (L n : ℕ) {rows back : List Row} → Narrow rows → Narrow back → length rows ≤ n → length back ≤ n → Below (10 * n) (corrected L rows back)
unfolding corrected paired_only
corrected-below L n {rows} {back} a b few back-few = pick (corrects L rows)
  where
    plain : Below (10 * n) (tally rows)
    plain = plain-below n a few

    pick : (c : Bool) → Below (10 * n) (cond c (tally_with_steps (tally rows).total_steps (tally (keep_from (pairs back) 0 back))) (tally rows))
    pick true = steps-below (10 * n) (tally rows).total_steps _ (omega (arith, plain)) (plain-below n (keep-narrow 10 (pairs back) 0 b) (omega (arith, keep-many (pairs back) 0 back)))
    pick false = plain

-- ---- The judged tally, where J says which rows are judged
judge-below : (L : ℕ) (J : ℕ → Bool) (ps : ℕ → List Pair) (k : ℕ) (t : ArrowStats) (i : ℕ) {rows : List Row} → Narrow rows → Below k t → Below (k + 10 * length rows) (judge_from L J ps t i rows)
judge-below L J ps k t i none b = below_more k (k + 10 * 0) t (omega arith) b
judge-below L J ps k t i (one {a = r} {l = rs} w a) b =
    below_more (k + 10 + 10 * length rs) (k + 10 * suc (length rs)) _ (omega arith)
    (judge-below L J ps (k + 10) (judge_row t (J i) (open_before L J ps i) (judged_sum (J i) (keep_row ps i 0 r))) (suc i) a
    (below-judged-line k t (J i) (open_before L J ps i) (keep_row ps i 0 r) (rw (keep-wide ps i 0 r) w) b))

pub judged-below : (L n : ℕ) (J : ℕ → Bool) {rows : List Row} → Narrow rows → length rows ≤ n → Below (10 * n) (judged_rows L J rows)
unfolding judged_rows
judged-below L n J {rows} a few = below_more (0 + 10 * length rows) (10 * n) _ (omega arith) (judge-below L J (pairs rows) 0 empty_stats 0 a below_none)
