-- The open measure's steps.
use mathlib.Core.Path.{◌≡◌, refl, sym}
use mathlib.Core.List.{List, [], ◌∷◌, ◌++◌}
use Prim.Native.Nat.{ℕ, ◌+◌}
use Rattle.definitions.specs.Lists.{number_of_bool}
use Rattle.definitions.specs.Lines.{Row}
use Rattle.definitions.specs.Figures.{is_step, density}
use Rattle.definitions.proofs.Figures.{density-snoc}

-- n is the density of the rows so far
abbrev pub Steps : ℕ → List Row → Type 0
Steps n cur = n ≡ density cur

pub steps-start : Steps 0 []
steps-start = refl

pub steps-more : (n k : ℕ) (r : Row) → k ≡ number_of_bool (is_step r) → (cur : List Row) → Steps n cur → Steps (n + k) (cur ++ (r ∷ []))
steps-more n k r e cur h = rw (h, e) (sym (density-snoc cur r))
