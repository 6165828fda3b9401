-- What is counted of minimised rows: `done` are the measures that have ended, `cur` the rows of the open one.
use Rattle.std.specs.Prelude.{◌≡◌, List, [], ◌∷◌, ◌++◌, ℕ, ◌+◌, ◌*◌, ◌≤◌, length, take}
use Rattle.definitions.specs.Lists.{joined}
use Rattle.definitions.specs.Lines.{Row}
use Rattle.definitions.specs.Figures.{density}
use Rattle.definitions.specs.Tally.{tally}
use Rattle.phantoms.specs.Phantoms.{Counts, Low}
use Rattle.row_tally.specs.Bounds.{Below}
use Rattle.taps.specs.Taps.{FreeAre}
use Rattle.measure_tally.specs.declared.Counting.{Counting}

-- every count is small for so many rows, and each of ten columns has its depth
pub record Few (c : Counting) : Type 0 where
  pub stats : Below (10 * c.rows) c.stats
  pub phantoms : Low (10 * c.rows) c.phantoms
  pub ten : length c.phantoms.depths ≡ 10

pub record Counted (L : ℕ) (c : Counting) (done : List (List Row)) (cur : List Row) : Type 0 where
  pub stats : c.stats ≡ tally (joined done ++ cur)
  pub phantoms : Counts L (joined done ++ cur) c.phantoms
  pub rows : c.rows ≡ length (joined done ++ cur)
  pub steps : c.stats.total_steps ≡ c.before + density cur
  pub few : Few c
  pub free : FreeAre c.busy 0 c.phantoms.depths

-- One row more of the open measure: whatever was counted before, at L columns that are enough for the row.
abbrev pub CountsRow : Row → Counting → Counting → Type 0
CountsRow row c c' =
    (L : ℕ) (done : List (List Row)) (cur : List Row) → length row ≤ L → L ≤ 10 → Counted L c done cur → Counted L c' done (cur ++ (row ∷ []))

-- Of a measure's rows ms the first i were counted, and then the first k.
abbrev pub CountsOn : ℕ → List Row → ℕ → ℕ → Counting → Counting → Type 0
CountsOn L ms i k c c' = (done : List (List Row)) → Counted L c done (take i ms) → Counted L c' done (take k ms)

-- All of them were counted, where no row of the open measure was before.
abbrev pub CountsAll : ℕ → List Row → Counting → Counting → Type 0
CountsAll L ms c c' = (done : List (List Row)) → Counted L c done [] → Counted L c' done ms
