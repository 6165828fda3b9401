-- What a row that is read as a word has.
use mathlib.Core.Path.{◌≡◌, refl, sym, ◌∙◌}
use mathlib.Core.Bool.{Bool, true, false, ◌||◌}
use mathlib.Core.List.{[], ◌∷◌}
use lib.Dec.{eqb}
use Rattle.definitions.proofs.Bools.{equal-turned}
use Rattle.definitions.specs.Lists.{among}
use Rattle.definitions.specs.Lines.{Row}
use Rattle.definitions.specs.Figures.{is_step}
use Rattle.cells.proofs.Arrows.{arrow_byte}

pub gathered : (p q r s t u : Bool) → (((p || q) || r) || ((s || t) || u)) ≡ (((p || s) || (q || t)) || (r || u))
gathered true q r s t u = refl
gathered false true r true t u = refl
gathered false true r false t u = refl
gathered false false true true t u = refl
gathered false false true false true u = refl
gathered false false true false false u = refl
gathered false false false s t u = refl

pub step_among : (r : Row) → ((among 49 r || among 50 r) || among 52 r) ≡ is_step r
unfolding is_step
step_among [] = refl
step_among (b ∷ r) =
    sym (gathered (eqb 49 b) (eqb 50 b) (eqb 52 b) (among 49 r) (among 50 r) (among 52 r))
    ∙ rw (equal-turned 49 b, equal-turned 50 b, equal-turned 52 b, arrow_byte b, step_among r)
