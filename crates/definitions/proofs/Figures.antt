-- The density of one row more.
use mathlib.Core.Path.{◌≡◌}
use mathlib.Core.List.{List, [], ◌∷◌, ◌++◌}
use Prim.Native.Nat.{◌+◌}
use Rattle.definitions.specs.Lists.{number_of_bool}
use Rattle.definitions.proofs.Lists.{count-snoc}
use Rattle.definitions.specs.Lines.{Row}
use Rattle.definitions.specs.Figures.{is_step, density}

pub density-snoc : (rs : List Row) (r : Row) → density (rs ++ (r ∷ [])) ≡ density rs + number_of_bool (is_step r)
density-snoc rs r = count-snoc is_step rs r
