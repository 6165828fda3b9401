-- The corrected tally, by the correction rule.
use mathlib.Core.Path.{◌≡◌, ap}
use mathlib.Core.Bool.{true, false}
use mathlib.Core.List.{List}
use Prim.Native.Nat.{ℕ}
use Rattle.definitions.specs.Lines.{Row}
use Rattle.definitions.specs.Tally.{tally}
use Rattle.definitions.specs.Correction.{corrects, corrected, paired_only, tally_with_steps}
use Rattle.definitions.specs.declared.ArrowStats.{ArrowStats}

module _ (L : ℕ) (rows back : List Row) (stats : ArrowStats) where
  pub corrected-anew : corrects L rows ≡ true → stats ≡ tally rows → tally_with_steps stats.total_steps (tally (paired_only back)) ≡ corrected L rows back
  unfolding corrected
  corrected-anew c e = rw c (ap (λ t. tally_with_steps t.total_steps (tally (paired_only back))) e)

  pub corrected-same : corrects L rows ≡ false → stats ≡ tally rows → stats ≡ corrected L rows back
  unfolding corrected
  corrected-same c e = rw c e
