-- The loop of the last-beat scan: what is held of the lines read tells the last object row in the end.
use mathlib.Core.Path.{◌≡◌, refl, sym, ap, ◌∙◌}
use mathlib.Core.List.{List, [], ◌∷◌, ◌++◌}
use Prim.Native.Nat.{ℕ, ◌≤◌, ◌<◌}
use native.Mathlib.Omega.{arith}
use Rattle.definitions.specs.Sizes.{row_count_bound}
use Rattle.definitions.specs.Lines.{Row}
use Rattle.definitions.specs.Measures.{chart}
use Rattle.definitions.specs.Objects.{Place, objects_from, last_of, place48, last48}
use Rattle.std.specs.Prelude.{Option, Some, None}
use Rattle.beats.specs.declared.RowPlace.{RowPlace}
use Rattle.beats.specs.Places.{place_of, Placed}
use Rattle.reader.proofs.ChartLoops.{Over}
use Rattle.objects.specs.declared.LastScan.{LastScan}
use Rattle.objects.specs.LastHeld.{LastHeld}
use Rattle.scans.proofs.LastRaw.{last-raw}

-- with the last measure ended, the last object row of the chart is found
pub looked-last : (s t : LastScan) (L : ℕ) (text : List ℕ) → ((done : List (List Row)) (cur : List Row) → LastHeld s done cur → LastHeld t (done ++ (cur ∷ [])) []) → Over L text (LastHeld s)
    → (Placed t.found) × (place_of t.found ≡ last_of (objects_from (λ c. 0) 0 (chart L text)))
looked-last s t L text f x =
    let k = f x.done x.cur x.held in
    (k.placed, k.found ∙ ap (λ ms. last_of (objects_from (λ c. 0) 0 ms)) (sym x.chart_is))

-- its beat in 48ths is that of the definitions
pub looked-48 : (L : ℕ) (text : List ℕ) (o : Option RowPlace) → Placed o → place_of o ≡ last_of (objects_from (λ c. 0) 0 (chart L text)) → place48 (place_of o) ≡ last48 L text
looked-48 L text o p e = last-raw L text (place_of o) e (bounds o p)
  where
    bounds : (o : Option RowPlace) → Placed o → (q : Place) → place_of o ≡ Some q → (q.r < q.n) × (q.n ≤ row_count_bound)
    bounds None p q e = let z : ◌≡◌ {A = ℕ} 0 1 = cc in absurd (omega arith)
    bounds (Some a) p q e =
        let i = p.inside a refl in
        let place : ◌≡◌ {A = Place} (record { m = a.measure; r = a.row; n = a.rows }) q = cc in
        let same-r : a.row ≡ q.r = ap (λ y. y.r) place in
        let same-n : a.rows ≡ q.n = ap (λ y. y.n) place in
        (omega (arith, i.row, same-r, same-n), omega (arith, i.rows, same-n))
