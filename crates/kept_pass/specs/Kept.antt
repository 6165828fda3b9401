-- A whole text read measure by measure: the text, the densities and what is counted are those of its minimised measures.
use Rattle.std.specs.Prelude.{◌≡◌, List, ℕ, ◌+◌, ◌≤◌, length, take}
use Rattle.definitions.specs.Lists.{joined}
use Rattle.definitions.specs.Reduction.{minimised}
use Rattle.definitions.specs.Figures.{minimised_text, densities as densities_of}
use Rattle.definitions.specs.Tally.{tally}
use Rattle.definitions.specs.Entries.{measure_count, row_count}
use Rattle.phantoms.specs.Phantoms.{Counts}
use Rattle.kept_pass.specs.declared.Kept.{Kept}

pub record KeptAll (L : ℕ) (chart_text : List ℕ) (k : Kept) (text densities : List ℕ) : Type 0 where
  pub text_is : take k.bytes text ≡ minimised_text L chart_text
  pub short : k.bytes ≤ length chart_text + 1
  pub densities_are : take k.measures densities ≡ densities_of L chart_text
  pub measures : k.measures ≡ measure_count L chart_text
  pub stats : k.counting.stats ≡ tally (joined (minimised L chart_text))
  pub phantoms : Counts L (joined (minimised L chart_text)) k.counting.phantoms
  pub rows : k.counting.rows ≡ row_count L chart_text
