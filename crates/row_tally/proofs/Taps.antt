-- A judged row of taps alone: its arrows are those of a plain one, so its mask's counts are its sum.
use mathlib.Core.Path.{◌≡◌, refl, ap, ap₂, sym, ◌∙◌}
use mathlib.Core.Bool.{Bool, true, false, ◌&&◌}
use mathlib.Core.List.{[], ◌∷◌}
use Prim.Native.Nat.{ℕ, zero, suc, ◌+◌, ◌/◌, ◌^◌, ◌<◌}
use native.Mathlib.Nat.{mod-lt, add-zero, sub-zero}
use native.Mathlib.Omega.{arith}
use lib.Dec.{eqb}
use lib.ListN.{length}
use Rattle.definitions.specs.Lists.{number_of_bool}
use Rattle.definitions.specs.Lines.{Row}
use Rattle.definitions.specs.Cells.{cell_of, byte_at, is_arrow}
use Rattle.definitions.specs.Tally.{count_from, direction, row_sum_by, row_sum, tally_with_row}
use Rattle.definitions.specs.Judged.{is_judged_arrow, sum_of_fakes, judged_sum, judge_row}
use Rattle.definitions.specs.declared.ArrowStats.{ArrowStats}
use Rattle.definitions.specs.declared.Cell.{Cell}
use Rattle.taps.specs.Taps.{mask_of_line, bit, mask_counts, unpack}
use Rattle.taps.specs.declared.Taps.TheVariants.{Mask}
use Rattle.taps.proofs.Masks.{line-taps}
use Rattle.taps.proofs.Sums.{row_of, mask-row, tap-line-sum}
use Rattle.taps.proofs.Free.{tap-cell}
use Rattle.row_tally.specs.Bounds.{Under}
use Rattle.row_tally.proofs.Bounds.{under-row}
use Rattle.row_tally.proofs.Kept.{unjudged}

-- the counts of a mask are those of a row of ten cells
pub mask_under : (m : ℕ) → m < 1024 → Under 10 (unpack (mask_counts m))
mask_under m h = rw (← mask-row m h) (under-row 10 (row_of 10 m) (omega arith))

-- tests that agree on a row's cells count the same
count_same : (p q : ℕ → Cell → Bool) (c : ℕ) (r : Row) → ((d k : ℕ) → p d (cell_of (byte_at k r)) ≡ q d (cell_of (byte_at k r)))
    → count_from p c r ≡ count_from q c r
count_same p q c [] h = refl
count_same p q c (b ∷ r) h = ap₂ (λ (x y : ℕ). x + y) (ap number_of_bool (h c 0)) (count_same p q (suc c) r (λ d k. h d (suc k)))

module _ (r : Row) (m : ℕ) (e : mask_of_line r ≡ Mask m) where
  -- a `1` is an arrow of either, and a `0` of neither
  same-arrow : (k : ℕ) → is_judged_arrow (cell_of (byte_at k r)) ≡ is_arrow (cell_of (byte_at k r))
  unfolding cell_of
  same-arrow k = rw (tap-cell r m k (line-taps r m e)) (go (bit k m) (mod-lt (m / 2 ^ k) (omega arith)))
    where
      go : (f : ℕ) → f < 2 → is_judged_arrow (cell_of (48 + f)) ≡ is_arrow (cell_of (48 + f))
      go zero h = refl
      go (suc zero) h = refl
      go (suc (suc f)) h = absurd (omega arith)

  same_sum : row_sum_by is_judged_arrow r ≡ row_sum_by is_arrow r
  unfolding row_sum_by
  same_sum =
      rw (count_same (λ c x. is_judged_arrow x) (λ c x. is_arrow x) 0 r (λ d k. same-arrow k), towards 0, towards 1, towards 2, towards 3, towards 4, towards 5)
    where
      towards : (n : ℕ) → count_from (λ c x. is_judged_arrow x && eqb (direction (length r) c) n) 0 r ≡ count_from (λ c x. is_arrow x && eqb (direction (length r) c) n) 0 r
      towards n =
          count_same (λ c x. is_judged_arrow x && eqb (direction (length r) c) n) (λ c x. is_arrow x && eqb (direction (length r) c) n) 0 r
          (λ d k. ap (λ t. t && eqb (direction (length r) d) n) (same-arrow k))

  pub taps-judged : unpack (mask_counts m) ≡ judged_sum true r
  unfolding judged_sum row_sum
  taps-judged = sym (same_sum ∙ tap-line-sum r m e)

  pub taps-unjudged : sum_of_fakes (unpack (mask_counts m)).arrows ≡ judged_sum false r
  unfolding judged_sum unpack
  taps-unjudged = ap sum_of_fakes (simp add-zero) ∙ ap (λ s. sum_of_fakes (s.arrows + s.mines + s.fakes)) taps-judged ∙ unjudged r

  -- without a tap it changes nothing
  module _ (z : m ≡ 0) where
    no-taps : unpack (mask_counts m) ≡ sum_of_fakes 0
    unfolding mask_counts unpack
    no-taps = rw z

    pub no-taps-row : row_sum r ≡ sum_of_fakes 0
    no-taps-row = tap-line-sum r m e ∙ no-taps

    pub no-taps-sum : (judged : Bool) → judged_sum judged r ≡ sum_of_fakes 0
    no-taps-sum true = rw (← taps-judged, no-taps)
    no-taps-sum false = rw (← taps-unjudged, no-taps)

    pub no-taps-counted : (t : ArrowStats) → t ≡ tally_with_row t (row_sum r)
    unfolding tally_with_row
    no-taps-counted t = rw no-taps-row (simp (add-zero, sub-zero) refl)

    pub no-taps-judged : (t : ArrowStats) (judged : Bool) (held : ℕ) → judge_row t false held (sum_of_fakes 0) ≡ judge_row t judged held (judged_sum judged r)
    unfolding judge_row
    no-taps-judged t true held = rw (no-taps-sum true)
    no-taps-judged t false held = rw (no-taps-sum false)
