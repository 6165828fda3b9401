-- The one reading of a text: the rows that have come, as many as the loop says, are counted.
use mathlib.Core.Path.{◌≡◌, subst}
use mathlib.Core.Bool.{Bool}
use mathlib.Core.List.{List, [], ◌∷◌, ◌++◌}
use Prim.Native.Nat.{ℕ, ◌+◌, ◌≤◌}
use native.Mathlib.Omega.{arith}
use lib.ListN.{length, length-append}
use Rattle.definitions.specs.Lines.{Row}
use Rattle.paired_tally.specs.Ends.{Counted}
use Rattle.paired_tally.specs.Paired.{PairedRows, LeftByRows, RowCounted}
use Rattle.paired_tally.specs.declared.PairedTally.{PairedTally}

-- in a plain tally or a judged one, where J says which rows are judged
pub record Reading (plain : Bool) (J : ℕ → Bool) (L : ℕ) (rows : List Row) (row : ℕ) (t : PairedTally) (work : List ℕ) : Type 0 where
  pub size : length rows ≡ row
  pub paired : PairedRows plain J L rows t work

module _ (plain : Bool) (J : ℕ → Bool) (L : ℕ) (rows : List Row) (row : ℕ) (t : PairedTally) (work : List ℕ) (x : Reading plain J L rows row t work) where
  pub reading-reached : (cells : Row) → length cells ≡ L → LeftByRows plain (length cells) row t work
  reading-reached cells w = record { judging = J; rows = rows; size = x.size; paired = rw w x.paired }

  pub reading-row : (cells : Row) → length cells ≡ L → (judged : Bool) → J row ≡ judged → (t' : PairedTally) (work' : List ℕ) → RowCounted plain judged row cells t work t' work'
      → Reading plain J L (rows ++ (cells ∷ [])) (row + 1) t' work'
  reading-row cells w judged j t' work' f =
      record {
        size = rw length-append (omega (arith, x.size));
        paired = subst (λ k. PairedRows plain J k (rows ++ (cells ∷ [])) t' work') w (f J rows x.size j (rw w x.paired));
      }

  pub reading-counted : L ≤ 10 → Counted plain row t work
  reading-counted m = record { lanes = L; narrow = m; left = record { judging = J; rows = rows; size = x.size; paired = x.paired } }
