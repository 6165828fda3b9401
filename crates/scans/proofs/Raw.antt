-- Densities and spacing of raw rows: minimising drops only rows that are all zero, which are no steps.
use mathlib.Core.Path.{◌≡◌, refl, ap, sym, ◌∙◌}
use mathlib.Core.Bool.{Bool, true, false, ◌&&◌, false≢true}
use mathlib.Core.List.{List, [], ◌∷◌, map}
use Prim.Native.Nat.{ℕ, suc, ◌+◌}
use native.Mathlib.Nat.{zero-add}
use native.Mathlib.Omega.{arith}
use borrow.Author.Tests.{eqb-true, eq-eqb, ne_eqb}
use lib.Dec.{eqb}
use lib.ListN.{length, length-map}
use Rattle.std.specs.List.{count_by}
use Rattle.definitions.specs.Lists.{number_of_bool}
use Rattle.std.proofs.lemmas.List.Sums.{count_by-le-length}
use Rattle.definitions.specs.Lines.{Row}
use Rattle.definitions.specs.Cells.{cell_of}
use Rattle.definitions.specs.Measures.{chart}
use Rattle.definitions.specs.Reduction.{all_zero, reduce, minimised}
use Rattle.definitions.specs.Figures.{is_step, density, spacing, densities, spacings}
use Rattle.definitions.specs.Entries.{measure_count}
use Rattle.definitions.proofs.Lists.{count-cons}
use Rattle.definitions.proofs.Bools.{and_left, and_right}
use Rattle.definitions.proofs.Thinned.{Thinned, none, keep, leave, reduce-thin}

-- a row that is all zero is no step
zero-step : (r : Row) → all_zero r ≡ true → is_step r ≡ false
unfolding is_step cell_of
zero-step [] z = refl
zero-step (b ∷ r) z =
    rw (eqb-true b 48 (and_left (eqb b 48) (all_zero r) z), zero-step r (and_right (eqb b 48) (all_zero r) z))

thin-steps : {s t : List Row} → Thinned s t → count_by is_step s ≡ count_by is_step t
thin-steps none = refl
thin-steps (keep {r = r} {s = s} {t = t} p) = rw (count-cons is_step r s, count-cons is_step r t) (ap (λ n. number_of_bool (is_step r) + n) (thin-steps p))
thin-steps (leave {r = r} z p) = rw (zero-step r z, zero-add) (thin-steps p)

pub density-raw : (rs : List Row) → density (reduce rs) ≡ density rs
density-raw rs = sym (thin-steps (reduce-thin rs))

map-raw : (ms : List (List Row)) → map density (map reduce ms) ≡ map density ms
map-raw [] = refl
map-raw (m ∷ ms) = rw (density-raw m, map-raw ms)

-- The densities are those of the rows as they stand.
pub densities-raw : (L : ℕ) (text : List ℕ) → densities L text ≡ map density (chart L text)
unfolding densities minimised
densities-raw L text = map-raw (chart L text)

-- there is one for each measure
pub densities_count : (L : ℕ) (text : List ℕ) → length (densities L text) ≡ measure_count L text
unfolding densities
densities_count L text = length-map (minimised L text) density

pub spacings_count : (L : ℕ) (text : List ℕ) → length (spacings L text) ≡ measure_count L text
unfolding spacings
spacings_count L text = length-map (minimised L text) (λ (m : List Row). number_of_bool (spacing m))

-- Each of some rows is a step where as many are steps as there are rows.
pub spacing-count : (rs : List Row) → spacing rs ≡ eqb (density rs) (length rs)
spacing-count [] = refl
spacing-count (r ∷ rs) = rw (count-cons is_step r rs) (go (is_step r) (spacing-count rs))
  where
    same : (a b : ℕ) → eqb (1 + a) (suc b) ≡ eqb a b
    same a b = to (eqb a b) refl
      where
        to : (t : Bool) → eqb a b ≡ t → eqb (1 + a) (suc b) ≡ t
        to true e = eq-eqb (1 + a) (suc b) (omega (arith, eqb-true a b e))
        to false e = ne_eqb (1 + a) (suc b) (λ q. false≢true (sym e ∙ eq-eqb a b (omega arith)))

    go : (t : Bool) → spacing rs ≡ eqb (count_by is_step rs) (length rs) → (t && spacing rs) ≡ eqb (number_of_bool t + count_by is_step rs) (suc (length rs))
    go true h = h ∙ sym (same (count_by is_step rs) (length rs))
    go false h = sym (ne_eqb (0 + count_by is_step rs) (suc (length rs)) (λ q. absurd (omega (arith, count_by-le-length is_step rs))))

-- The spacing of a measure by its steps and the count of its minimised rows.
pub spacing-raw : (rs : List Row) → spacing (reduce rs) ≡ eqb (density rs) (length (reduce rs))
spacing-raw rs = spacing-count (reduce rs) ∙ ap (λ n. eqb n (length (reduce rs))) (density-raw rs)
