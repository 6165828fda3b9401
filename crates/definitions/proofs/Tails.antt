-- Where the tail of a head can lie.
use mathlib.Core.Path.{◌≡◌}
use mathlib.Core.List.{List, [], ◌∷◌}
use Rattle.std.specs.Prelude.{Option, Some}
use Prim.Native.Nat.{ℕ, suc, ◌+◌, ◌≤◌, ◌<◌}
use native.Mathlib.Omega.{arith}
use lib.ListN.{length}
use Rattle.definitions.specs.Lines.{Row}
use Rattle.definitions.specs.Cells.{byte_at}
use Rattle.definitions.specs.Notes.{effect_at, meets, tail_row_of}
use Rattle.definitions.specs.declared.NoteEffect.{NoteEffect}
use Rattle.definitions.specs.declared.NoteEffect.TheVariants.{Nothing, Closes, Single, Head}

-- the tail of a head lies within the rows after it, which are numbered from i
pub tail_within : (c i : ℕ) (rs : List Row) (j : ℕ) → tail_row_of c i rs ≡ Some j → (i ≤ j) × (j < i + length rs)
tail_within c i [] j e = let z : ◌≡◌ {A = ℕ} 0 1 = cc in absurd (omega arith)
tail_within c i (r ∷ rs) j e = go (effect_at (byte_at c r)) (tail_row_of c (suc i) rs) e (tail_within c (suc i) rs j)
  where
    go : (x : NoteEffect) (t : Option ℕ) → meets x i t ≡ Some j → (t ≡ Some j → (suc i ≤ j) × (j < suc i + length rs)) → (i ≤ j) × (j < i + suc (length rs))
    go Nothing t q h = let w = h q in (omega arith)
    go Closes t q h = let z : i ≡ j = cc in omega arith
    go (Single k) t q h = let z : ◌≡◌ {A = ℕ} 0 1 = cc in absurd (omega arith)
    go (Head k) t q h = let z : ◌≡◌ {A = ℕ} 0 1 = cc in absurd (omega arith)
