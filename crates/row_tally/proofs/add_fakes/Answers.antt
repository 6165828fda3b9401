-- `row_tally::add_fakes` meets its contract: each tap of a row is one fake.
use mathlib.Core.Path.{◌≡◌, ap, ◌∙◌}
use Prim.Native.Nat.{ℕ, ◌+◌}
use native.Mathlib.Nat.{add-zero}
use native.Mathlib.Omega.{arith}
use Rattle.definitions.specs.Judged.{sum_of_fakes}
use Rattle.definitions.specs.declared.ArrowStats.{ArrowStats}
use Rattle.definitions.specs.declared.RowSum.{RowSum}
use Rattle.taps.proofs.Masks.{masks-few}
use Rattle.row_tally.specs.Bounds.{Under}
use Rattle.row_tally.specs.Raised.{with_cells}
use Rattle.row_tally.proofs.Taps.{mask_under, taps-unjudged}
use Rattle.row_tally.proofs.add_fakes.Goals as goal

fakes-more : (t : ArrowStats) (n : ℕ) → ◌≡◌ {A = ArrowStats} (record t { fakes = t.fakes + n }) (with_cells t (sum_of_fakes n))
unfolding with_cells
fakes-more t n = simp add-zero

pub overflow_add-stats : goal.overflow_add-stats
overflow_add-stats c =
    let u : Under 10 c.sum.result = rw c.sum.ensures (mask_under _ (masks-few _ _ c.requires.mask_known)) in
    omega (arith, u.counts, c.requires.few)

pub returns : goal.returns
returns c row e =
    fakes-more c.args.stats.now c.sum.result.arrows
    ∙ ap (with_cells c.args.stats.now) (ap (λ (s : RowSum). sum_of_fakes s.arrows) c.sum.ensures ∙ taps-unjudged row _ e)
