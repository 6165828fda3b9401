-- One row more of the pass: what is left is ready for the next row, and a row of free taps leaves the depths as they are.
use mathlib.Core.Path.{◌≡◌, refl, ap, sym, ◌∙◌}
use mathlib.Core.Bool.{true, false, not}
use mathlib.Core.List.{List}
use Prim.Native.Nat.{ℕ, zero, suc, ◌+◌, ◌≤◌, ◌<◌}
use native.Mathlib.Numerals.{add-one}
use native.Mathlib.Omega.{arith}
use lib.ListN.{length, get_or, take}
use lib.Seq.{take_all}
use Rattle.std.specs.Prelude.{sum}
use Rattle.std.proofs.lemmas.List.Sums.{sum_by_more, sum_by-le}
use Rattle.definitions.proofs.Lists.{any-default}
use Rattle.definitions.specs.Lists.{sum_columns}
use Rattle.definitions.specs.Lines.{Row}
use Rattle.definitions.specs.Cells.{cell_of, byte_at}
use Rattle.definitions.specs.Tracker.{hold_at}
use Rattle.definitions.specs.Correction.{phantom_step}
use Rattle.phantoms.proofs.Columns.{column-same, column-none, column-each}
use Rattle.taps.specs.Taps.{bit, FreeTaps}
use Rattle.taps.proofs.Free.{Free, zero-cell, tap-there, free-cell}
use Rattle.judged.specs.Clean.{unpairs}
use Rattle.judged.specs.JudgedPass.{row_unpairs, DepthsPassed, Ready}
use Rattle.judged.specs.declared.judged_pass.CleanRows.{CleanRows}

-- a list of n numbers summed by its columns
pub sum-columns : (n : ℕ) (l : List ℕ) → length l ≡ n → sum l ≡ sum_columns n (λ c. get_or l c 0)
sum-columns n l e = let all : length l ≤ n = omega (arith, e) in rw (take_all n l all) at (go n (omega (arith, e)))
  where
    go : (k : ℕ) → k ≤ length l → sum (take k l) ≡ sum_columns k (λ c. get_or l c 0)
    go zero h = refl
    go (suc k) h = rw add-one at (sum_by_more (λ x. x) l k 0 (omega arith)) ∙ ap (λ a. a + get_or l k 0) (go k (omega arith))

pub active_few : (t : CleanRows) → Ready t → t.active ≤ 80
active_few t r =
    let each : (c d : ℕ) → c < length t.depths → get_or t.depths c d ≤ 8 = λ c d h. rw (any-default t.depths c d 0 h) (r.low c (omega (arith, r.ten))) in
    omega (arith, r.active, r.ten, sum_by-le (λ x. x) 8 t.depths each)

-- where no cell leaves a head unpaired, each column's does not
pub none-unpairs : (row : Row) (depths : List ℕ) → row_unpairs row depths ≡ false → (c : ℕ) → c < 10 → unpairs (hold_at (byte_at c row)) (get_or depths c 0) ≡ false
unfolding row_unpairs
none-unpairs row depths k c h = column-each 10 (λ c. unpairs (hold_at (byte_at c row)) (get_or depths c 0)) k c h

-- ---- Free taps
-- in a column of depth d, which is 0 where `busy` has no bit of it
module _ (busy c d : ℕ) (z : bit c busy ≡ 0 → d ≡ 0) where
  free-depth : {b : ℕ} → Free busy c b → d ≡ phantom_step (hold_at b) d
  unfolding hold_at cell_of
  free-depth (zero-cell e) = rw e
  free-depth (tap-there e f) = rw e

  free-clean : {b : ℕ} → Free busy c b → unpairs (hold_at b) d ≡ false
  unfolding hold_at cell_of
  free-clean (zero-cell e) = rw e
  free-clean (tap-there e f) = rw (e, z f)

module _ (t : CleanRows) (m : ℕ) (row : Row) (r : Ready t) (f : FreeTaps t.busy m row) where
  pub free-passed : DepthsPassed row t.depths t.depths
  free-passed c h = free-depth t.busy c (get_or t.depths c 0) (r.busy c h) (free-cell t.busy m row f c)

  pub free-whole : true ≡ not (row_unpairs row t.depths)
  unfolding row_unpairs
  free-whole =
      sym (ap not (column-same 10 _ _ (λ c h. free-clean t.busy c (get_or t.depths c 0) (r.busy c h) (free-cell t.busy m row f c)) ∙ column-none 10))
