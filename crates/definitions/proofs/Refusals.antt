-- What a call is told stands on its checks alone.
use mathlib.Core.Path.{◌≡◌, refl}
use mathlib.Core.List.{List, [], ◌∷◌}
use Rattle.std.specs.Prelude.{Result, Ok, Err}
use Rattle.definitions.specs.Refusals.{answered, number_told}
use Rattle.definitions.specs.declared.Refusal.{Refusal}

-- the number is the same whatever an accepted call answers
pub told-alike : {S T : Type 0} (checks : List (Result Unit Refusal)) (x : S) (y : T) → number_told (answered checks x) ≡ number_told (answered checks y)
told-alike [] x y = refl
told-alike (Ok u ∷ checks) x y = told-alike checks x y
told-alike (Err r ∷ checks) x y = refl
