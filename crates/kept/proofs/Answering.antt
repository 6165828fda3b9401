-- From the pass over a whole text to what the kept-row call answers.
use mathlib.Core.Path.{◌≡◌, ◌∙◌}
use mathlib.Core.List.{List}
use Prim.Native.Nat.{ℕ, ◌+◌, ◌≤◌}
use lib.ListN.{length}
use Rattle.definitions.specs.ReadBack.{main_tally, MainKeptAgree}
use Rattle.definitions.specs.Entries.{figures_of_kept}
use Rattle.definitions.specs.declared.ArrowStats.{ArrowStats}
use Rattle.definitions.specs.declared.KeptFigures.{KeptFigures}
use Rattle.definitions.proofs.OwnRows.{main-kept-agree}
use Rattle.kept_pass.specs.declared.Kept.{Kept}
use Rattle.kept_pass.specs.Kept.{KeptAll}
use Rattle.kept_pass.proofs.Answering.{all-bytes}

module _ (L : ℕ) (chart_text : List ℕ) (k : Kept) (text densities : List ℕ) (x : KeptAll L chart_text k text densities) where
  -- the tally is that of the main call
  pub all-figures : length chart_text + 1 ≤ length text → {stats : ArrowStats} → stats ≡ main_tally L chart_text
      → record { bytes = k.bytes; measures = k.measures; rows = k.counting.rows; stats = stats } ≡ figures_of_kept L chart_text
  unfolding figures_of_kept MainKeptAgree
  all-figures room e = made (all-bytes _ _ _ _ _ x room) x.measures x.rows (e ∙ main-kept-agree L chart_text)
    where
      made : {a b c d f g : ℕ} {s t : ArrowStats} → a ≡ b → c ≡ d → f ≡ g → s ≡ t
          → ◌≡◌ {A = KeptFigures} (record { bytes = a; measures = c; rows = f; stats = s }) (record { bytes = b; measures = d; rows = g; stats = t })
      made p q r s = cc
