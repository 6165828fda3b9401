-- Rows that are read back are few and narrow, and rows with some of their heads left out are as many and as wide as before.
use Rattle.std.proofs.Common.{◌≡◌, Bool, true, false, refl, ap, ℕ, suc, ◌+◌, ◌≤◌, List, [], ◌∷◌, length, take, length-append, arith}
use lib.ListN.{length-take}
use Rattle.definitions.specs.Lists.{only_if}
use Rattle.definitions.specs.Lines.{Row, cut}
use Rattle.definitions.specs.Tracker.{Pair}
use Rattle.definitions.specs.Correction.{keep_row, keep_from}
use Rattle.definitions.specs.ReadBack.{without_cr, back_row, back_rows, rows_read_back}
use Rattle.definitions.proofs.Lists.{All, none, one, all_append}
use Rattle.definitions.proofs.ChartRows.{line_bytes, cut-bytes}

-- ---- Rows that are read back
-- at most L bytes each
back-narrow : (L : ℕ) (ls : List (List ℕ)) → All (λ (r : Row). length r ≤ L) (back_rows L ls)
back-narrow L [] = none
back-narrow L (l ∷ ls) = all_append (row _) (back-narrow L ls)
  where
    row : (t : Bool) → All (λ (r : Row). length r ≤ L) (only_if t (take L (without_cr l) ∷ []))
    row true = one (omega (arith, length-take L (without_cr l))) none
    row false = none

pub read-narrow : (L : ℕ) (text : List ℕ) → All (λ (r : Row). length r ≤ L) (rows_read_back L text)
unfolding rows_read_back
read-narrow L text = back-narrow L (cut text)

-- at most one a line
back-few : (L : ℕ) (ls : List (List ℕ)) → length (back_rows L ls) ≤ line_bytes ls
back-few L [] = omega arith
back-few L (l ∷ ls) = rw (length-append (back_row L (without_cr l)) (back_rows L ls)) (row _ (back-few L ls))
  where
    row : (t : Bool) → length (back_rows L ls) ≤ line_bytes ls → length (only_if t (take L (without_cr l) ∷ [])) + length (back_rows L ls) ≤ line_bytes (l ∷ ls)
    row true h = omega arith
    row false h = omega arith

pub read-few : (L : ℕ) (text : List ℕ) → length (rows_read_back L text) ≤ length text + 1
unfolding rows_read_back
read-few L text = omega (arith, back-few L (cut text), cut-bytes text)

-- ---- Rows with their paired heads alone
pub keep-wide : (ps : ℕ → List Pair) (i c : ℕ) (r : Row) → length (keep_row ps i c r) ≡ length r
keep-wide ps i c [] = refl
keep-wide ps i c (b ∷ r) = ap suc (keep-wide ps i (suc c) r)

pub keep-many : (ps : ℕ → List Pair) (i : ℕ) (rows : List Row) → length (keep_from ps i rows) ≡ length rows
keep-many ps i [] = refl
keep-many ps i (r ∷ rs) = ap suc (keep-many ps (suc i) rs)

pub keep-narrow : (n : ℕ) (ps : ℕ → List Pair) (i : ℕ) {rows : List Row} → All (λ (r : Row). length r ≤ n) rows → All (λ (r : Row). length r ≤ n) (keep_from ps i rows)
keep-narrow n ps i none = none
keep-narrow n ps i (one {a = r} p a) = one (rw (keep-wide ps i 0 r) p) (keep-narrow n ps (suc i) a)
