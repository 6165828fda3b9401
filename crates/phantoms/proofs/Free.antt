-- A row of taps alone in columns of depth 0 leaves the depths, the heads and the tails, and meets no phantom depth.
use mathlib.Core.Path.{◌≡◌, refl, sym, ◌∙◌}
use mathlib.Core.Bool.{false, or-false}
use mathlib.Core.List.{List, [], ◌∷◌, ◌++◌}
use Prim.Native.Nat.{ℕ, ◌*◌, ◌<◌, ◌≤◌}
use native.Mathlib.Nat.{add-zero}
use native.Mathlib.Omega.{arith}
use lib.ListN.{length, length-append}
use Rattle.definitions.specs.Lines.{Row}
use Rattle.definitions.specs.Cells.{cell_of, byte_at}
use Rattle.definitions.specs.Tracker.{hold_at}
use Rattle.definitions.specs.Correction.{phantom_step, phantom_after, meets_phantom, phantom_met, is_opening, is_closing}
use Rattle.taps.specs.Taps.{FreeTaps, FreeAre}
use Rattle.taps.proofs.Masks.{line-taps}
use Rattle.taps.proofs.Free.{Free, zero-cell, tap-there, free-cell, taps-count}
use Rattle.phantoms.specs.Phantoms.{Counts, RowCounted}
use Rattle.phantoms.specs.declared.Phantoms.{Phantoms}
use Rattle.phantoms.proofs.Columns.{column-same}
use Rattle.phantoms.proofs.Loop.{low-more}
use Rattle.phantoms.proofs.Rows.{after-snoc, met-snoc, heads-snoc, tails-snoc}

module _ (busy m : ℕ) (row : Row) (p : Phantoms) (x : FreeTaps busy m row) (free : FreeAre busy 0 p.depths) where
  module _ (L : ℕ) (rows : List Row) (narrow : L ≤ 10) (counts : Counts L rows p) where
    module _ (c : ℕ) (k : c < L) where
      step : (b : ℕ) → Free busy c b → (phantom_step (hold_at b) (phantom_after c 0 rows) ≡ phantom_after c 0 rows) × (meets_phantom (hold_at b) (phantom_after c 0 rows) ≡ false)
      unfolding hold_at cell_of
      step b (zero-cell e) = rw e (refl, refl)
      step b (tap-there e none) =
          let depth : phantom_after c 0 rows ≡ 0 = sym (counts.depths c k) ∙ free c (omega arith) none in
          rw (e, depth) (refl, refl)

      here : (phantom_step (hold_at (byte_at c row)) (phantom_after c 0 rows) ≡ phantom_after c 0 rows) × (meets_phantom (hold_at (byte_at c row)) (phantom_after c 0 rows) ≡ false)
      here = step (byte_at c row) (free-cell busy m row x c)

      met-same : phantom_met c 0 rows ≡ phantom_met c 0 (rows ++ (row ∷ []))
      met-same = sym (met-snoc c 0 rows row ∙ rw here.1 (or-false (phantom_met c 0 rows)))

    counts-row : Counts L (rows ++ (row ∷ [])) p
    unfolding hold_at cell_of
    counts-row =
        let taps = line-taps row m x.mask in
        record {
          depths = λ c k. counts.depths c k ∙ sym (after-snoc c 0 rows row ∙ (here c k).0);
          heads = counts.heads ∙ sym (heads-snoc rows row ∙ rw (taps-count (λ b. is_opening (hold_at b)) refl refl row m taps) (add-zero _));
          tails = counts.tails ∙ sym (tails-snoc rows row ∙ rw (taps-count (λ b. is_closing (hold_at b)) refl refl row m taps) (add-zero _));
          met = counts.met ∙ column-same L _ _ met-same;
          low =
              let n = length-append rows (row ∷ []) in
              low-more (10 * length rows) (10 * length (rows ++ (row ∷ []))) p (omega arith) counts.low;
        }

  pub free-row : RowCounted row p p
  free-row L rows wide narrow counts = counts-row L rows narrow counts
