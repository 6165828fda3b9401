-- A row of taps alone in columns of depth 0: an object row where it has one, and it leaves the depths.
use mathlib.Core.Path.{◌≡◌, refl, ap, sym, ◌∙◌}
use mathlib.Core.Bool.{not, ◌||◌}
use mathlib.Core.List.{[], ◌∷◌}
use Prim.Native.Nat.{ℕ, zero, suc, ◌+◌, ◌*◌, ◌<◌, ◌≤◌}
use native.Mathlib.Omega.{arith}
use borrow.Author.Tests.{ne_eqb}
use lib.Dec.{eqb}
use Rattle.definitions.specs.Lines.{Row}
use Rattle.definitions.specs.Cells.{cell_of, byte_at}
use Rattle.definitions.specs.Objects.{object_at, is_object, deeper, object_from}
use Rattle.definitions.specs.Objects as objects
use Rattle.taps.specs.Taps.{tap_mask, FreeTaps, FreeAre}
use Rattle.taps.specs.declared.Taps.TheVariants.{Mask}
use Rattle.taps.proofs.Masks.{parts}
use Rattle.taps.proofs.Masks.{line-taps}
use Rattle.taps.proofs.Free.{Free, zero-cell, tap-there, free-cell}
use Rattle.objects.specs.Rows.{DepthsHeld, RowDone}
use Rattle.objects.specs.declared.Depths.{Depths}
use Rattle.objects.proofs.Scan.{low-more}

tap-object : (D : objects.Depths) (k : ℕ) (r : Row) (m : ℕ) → tap_mask r ≡ Mask m → object_from D k r ≡ not (eqb m 0)
unfolding tap_mask object_at cell_of
tap-object D k [] m e = let w : 0 ≡ m = cc in rw (← w)
tap-object D k (b ∷ r) m e =
    let s = parts b (tap_mask r) m e in
    ap (λ x. is_object (object_at x) (D k) || object_from D (suc k) r) s.byte
    ∙ go s.first s.small s.rest (tap-object D (suc k) r s.rest s.after)
    ∙ ap (λ n. not (eqb n 0)) (sym s.whole)
  where
    half : (n : ℕ) → eqb n 0 ≡ eqb (0 + 2 * n) 0
    half zero = refl
    half (suc n) = ne_eqb (suc n) 0 (λ q. omega arith) ∙ sym (ne_eqb (0 + 2 * suc n) 0 (λ q. omega arith))

    go : (f : ℕ) → f ≤ 1 → (n : ℕ) → object_from D (suc k) r ≡ not (eqb n 0) → (is_object (object_at (48 + f)) (D k) || object_from D (suc k) r) ≡ not (eqb (f + 2 * n) 0)
    go zero h n ih = ih ∙ ap not (half n)
    go (suc zero) h n ih = sym (ap not (ne_eqb (1 + 2 * n) 0 (λ q. omega arith)))
    go (suc (suc f)) h n ih = absurd (omega arith)

pub free-done : (busy m : ℕ) (row : Row) (s : Depths) → FreeTaps busy m row → FreeAre busy 0 s.depths → RowDone row s (record { object = not (eqb m 0); depths = s })
unfolding object_at cell_of
free-done busy m row s x free =
    record {
      object = λ D held. sym (tap-object D 0 row m (line-taps row m x.mask));
      depths = λ D held c h. held c h ∙ sym (after D held c h (byte_at c row) (free-cell busy m row x c));
      low = λ k low. low-more k (k + 1) s (omega arith) low;
    }
  where
    after : (D : objects.Depths) → DepthsHeld D s → (c : ℕ) → c < 10 → (b : ℕ) → Free busy c b → deeper (object_at b) (D c) ≡ D c
    after D held c h b (zero-cell e) = rw e
    after D held c h b (tap-there e none) = rw e (sym (sym (held c h) ∙ free c h none))
