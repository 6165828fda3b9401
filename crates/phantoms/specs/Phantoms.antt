-- The phantom depths, heads and tails in a struct, and the rows that it has counted.
use Rattle.std.specs.Prelude.{◌≡◌, ◌||◌, List, [], ◌∷◌, ◌++◌, ℕ, ◌+◌, ◌*◌, ◌<◌, ◌≤◌, length, slice_index, set}
use Rattle.definitions.specs.Lists.{number_of_bool, some_column}
use Rattle.definitions.specs.Lines.{Row}
use Rattle.definitions.specs.Correction.{phantom_step, phantom_after, meets_phantom, phantom_met, is_opening, is_closing, head_count, tail_count}
use Rattle.phantoms.specs.declared.Phantoms.{Phantoms}
use Rattle.definitions.specs.declared.DepthEffect.{DepthEffect}

-- the phantom depth of a column
abbrev pub phantom_at : Phantoms → ℕ → ℕ
phantom_at p c = slice_index p.depths c

-- No count of the struct is over k.
pub record Low (k : ℕ) (p : Phantoms) : Type 0 where
  pub depths : (c : ℕ) → c < 10 → phantom_at p c ≤ k
  pub heads : p.heads ≤ k
  pub tails : p.tails ≤ k

-- The struct has counted these rows, of L columns.
pub record Counts (L : ℕ) (rows : List Row) (p : Phantoms) : Type 0 where
  pub depths : (c : ℕ) → c < L → phantom_at p c ≡ phantom_after c 0 rows
  pub heads : p.heads ≡ head_count rows
  pub tails : p.tails ≡ tail_count rows
  pub met : p.met ≡ some_column L (λ c. phantom_met c 0 rows)
  pub low : Low (10 * length rows) p

-- With a cell of that effect in column c.
unfoldable pub with_effect : Phantoms → ℕ → DepthEffect → Phantoms
with_effect p c e =
    record {
      depths = set p.depths c (phantom_step e (phantom_at p c));
      heads = p.heads + number_of_bool (is_opening e);
      tails = p.tails + number_of_bool (is_closing e);
      met = p.met || meets_phantom e (phantom_at p c);
    }

-- A row: whatever rows the struct had counted, it has then counted one more.
abbrev pub RowCounted : Row → Phantoms → Phantoms → Type 0
RowCounted row p r =
    (L : ℕ) (rows : List Row) → length row ≤ L → L ≤ 10 → Counts L rows p → Counts L (rows ++ (row ∷ [])) r
