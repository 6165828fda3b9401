-- Phantom depths, heads and tails of rows with one row more at their end.
use mathlib.Core.Path.{◌≡◌, refl, ap, sym}
use mathlib.Core.Bool.{Bool, ◌||◌, or_assoc, or-false}
use mathlib.Core.List.{List, [], ◌∷◌, ◌++◌, append-nil}
use Prim.Native.Nat.{ℕ, ◌+◌}
use native.Mathlib.Nat.{zero-add, add_assoc}
use Rattle.std.specs.List.{count_by}
use Rattle.definitions.proofs.Lists.{count-append}
use Rattle.definitions.specs.Lists.{joined}
use Rattle.definitions.specs.Lines.{Row}
use Rattle.definitions.specs.Cells.{byte_at}
use Rattle.definitions.specs.Tracker.{hold_at}
use Rattle.definitions.specs.Correction.{phantom_step, phantom_after, meets_phantom, phantom_met, is_opening, is_closing, head_count, tail_count}

pub after-snoc : (c d : ℕ) (rows : List Row) (r : Row)
    → phantom_after c d (rows ++ (r ∷ [])) ≡ phantom_step (hold_at (byte_at c r)) (phantom_after c d rows)
after-snoc c d [] r = refl
after-snoc c d (q ∷ rows) r = after-snoc c (phantom_step (hold_at (byte_at c q)) d) rows r

pub met-snoc : (c d : ℕ) (rows : List Row) (r : Row)
    → phantom_met c d (rows ++ (r ∷ [])) ≡ (phantom_met c d rows || meets_phantom (hold_at (byte_at c r)) (phantom_after c d rows))
met-snoc c d [] r = or-false (meets_phantom (hold_at (byte_at c r)) d)
met-snoc c d (q ∷ rows) r =
    rw or_assoc (ap (λ t. meets_phantom (hold_at (byte_at c q)) d || t) (met-snoc c (phantom_step (hold_at (byte_at c q)) d) rows r))

module _ (p : ℕ → Bool) where
  pub count-snoc : (rows : List Row) (r : Row) → count_by p (joined (rows ++ (r ∷ []))) ≡ count_by p (joined rows) + count_by p r
  count-snoc [] r = rw (append-nil r) (sym (zero-add (count_by p r)))
  count-snoc (q ∷ rows) r =
      rw (count-append p q (joined (rows ++ (r ∷ []))), count-append p q (joined rows), count-snoc rows r, add_assoc)

pub heads-snoc : (rows : List Row) (r : Row) → head_count (rows ++ (r ∷ [])) ≡ head_count rows + count_by (λ b. is_opening (hold_at b)) r
heads-snoc rows r = count-snoc (λ b. is_opening (hold_at b)) rows r

pub tails-snoc : (rows : List Row) (r : Row) → tail_count (rows ++ (r ∷ [])) ≡ tail_count rows + count_by (λ b. is_closing (hold_at b)) r
tails-snoc rows r = count-snoc (λ b. is_closing (hold_at b)) rows r
