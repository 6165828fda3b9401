-- What is counted, with one row more and at the end of a measure.
use mathlib.Core.Path.{◌≡◌, refl, ap, sym, ◌∙◌, subst}
use mathlib.Core.List.{List, [], ◌∷◌, ◌++◌, append_assoc, append-nil}
use Prim.Native.Nat.{ℕ, ◌+◌, ◌*◌, ◌≤◌}
use native.Mathlib.Nat.{add-zero}
use native.Mathlib.Omega.{arith}
use lib.ListN.{length, take, length-append}
use lib.Seq.{length-take-le}
use Rattle.definitions.specs.Lists.{number_of_bool, joined}
use Rattle.definitions.specs.Lines.{Row}
use Rattle.definitions.specs.Figures.{is_step}
use Rattle.definitions.specs.Tally.{row_sum, empty_stats, tally_with_row, tally}
use Rattle.definitions.specs.declared.ArrowStats.{ArrowStats}
use Rattle.definitions.proofs.Lists.{joined_snoc}
use Rattle.definitions.proofs.Figures.{density-snoc}
use Rattle.phantoms.specs.declared.Phantoms.{Phantoms}
use Rattle.phantoms.specs.Phantoms.{Counts, RowCounted, Low}
use Rattle.row_tally.proofs.Zeros.{step-arrows}
use Rattle.row_tally.specs.Bounds.{Below}
use Rattle.taps.specs.Taps.{FreeAre}
use Rattle.row_tally.proofs.Rows.{tally-none, tally-snoc}
use Rattle.row_tally.proofs.Bounds.{below_none, below-line}
use Rattle.measure_tally.specs.declared.Counting.{Counting}
use Rattle.measure_tally.specs.Counted.{Counted}

pub counted_start : (L : ℕ) (t : ArrowStats) (p : Phantoms) (busy : ℕ) → t ≡ empty_stats → Counts L [] p → FreeAre busy 0 p.depths → length p.depths ≡ 10
    → Counted L (record { stats = t; phantoms = p; rows = 0; before = 0; busy = busy }) [] []
counted_start L t p busy e x free ten =
    record {
      stats = e ∙ sym tally-none;
      phantoms = x;
      rows = refl;
      steps = ap (λ (s : ArrowStats). s.total_steps) e;
      few = record { stats = rw e below_none; phantoms = x.low; ten = ten };
      free = free;
    }

-- the steps with one row more
steps-row : (t : ArrowStats) (row : Row) → (tally_with_row t (row_sum row)).total_steps ≡ t.total_steps + number_of_bool (is_step row)
unfolding tally_with_row
steps-row t row = ap (λ b. t.total_steps + number_of_bool b) (step-arrows row)

module _ (L : ℕ) (c : Counting) (done : List (List Row)) (cur : List Row) (x : Counted L c done cur) where
  -- one row more
  pub counted-row : (row : Row) → length row ≤ L → L ≤ 10 → (t : ArrowStats) (p : Phantoms) (busy : ℕ)
      → t ≡ tally_with_row c.stats (row_sum row) → RowCounted row c.phantoms p → FreeAre busy 0 p.depths → length p.depths ≡ 10
      → Counted L (record { stats = t; phantoms = p; rows = c.rows + 1; before = c.before; busy = busy }) done (cur ++ (row ∷ []))
  counted-row row w v t p busy et xp free sized =
      let all : joined done ++ (cur ++ (row ∷ [])) ≡ (joined done ++ cur) ++ (row ∷ []) = sym (append_assoc (joined done) cur (row ∷ [])) in
      let counts : Counts L ((joined done ++ cur) ++ (row ∷ [])) p = xp L (joined done ++ cur) w v x.phantoms in
      let narrow : length row ≤ 10 = omega arith in
      let size : length ((joined done ++ cur) ++ (row ∷ [])) ≡ c.rows + 1 = rw length-append (omega (arith, x.rows)) in
      let ten : 10 * c.rows + 10 ≡ 10 * (c.rows + 1) = omega arith in
      let stepped : t.total_steps ≡ c.stats.total_steps + number_of_bool (is_step row) = ap (λ (s : ArrowStats). s.total_steps) et ∙ steps-row c.stats row in
      record {
        stats = et ∙ ap (λ s. tally_with_row s (row_sum row)) x.stats ∙ sym (tally-snoc (joined done ++ cur) row) ∙ ap tally (sym all);
        phantoms = subst (λ rs. Counts L rs p) (sym all) counts;
        rows = sym (ap length all ∙ size);
        steps = omega (arith, stepped, x.steps, density-snoc cur row);
        few =
            record {
              stats = rw et (subst (λ k. Below k (tally_with_row c.stats (row_sum row))) ten (below-line (10 * c.rows) c.stats row narrow x.few.stats));
              phantoms = subst (λ k. Low (10 * k) p) size counts.low;
              ten = sized;
            };
        free = free;
      }

  -- the measure ends
  pub counted-measure : Counted L (record { stats = c.stats; phantoms = c.phantoms; rows = c.rows; before = c.stats.total_steps; busy = c.busy }) (done ++ (cur ∷ [])) []
  counted-measure =
      let all : joined done ++ cur ≡ joined (done ++ (cur ∷ [])) ++ [] = sym (append-nil (joined (done ++ (cur ∷ []))) ∙ joined_snoc done cur) in
      record {
        stats = x.stats ∙ ap tally all;
        phantoms = subst (λ rs. Counts L rs c.phantoms) all x.phantoms;
        rows = x.rows ∙ ap length all;
        steps = sym (add-zero c.stats.total_steps);
        few = record { stats = x.few.stats; phantoms = x.few.phantoms; ten = x.few.ten };
        free = x.free;
      }

-- rows of the same measure ms, as many more as are counted
pub counted-grown : (L : ℕ) (c d : Counting) (done : List (List Row)) (ms : List Row) (i j : ℕ) → i ≤ length ms → j ≤ length ms
    → Counted L c done (take i ms) → Counted L d done (take j ms) → d.rows + i ≡ c.rows + j
counted-grown L c d done ms i j h k x y =
    omega (
      arith,
      x.rows,
      y.rows,
      length-append (joined done) (take i ms),
      length-append (joined done) (take j ms),
      length-take-le i ms h,
      length-take-le j ms k,
    )
