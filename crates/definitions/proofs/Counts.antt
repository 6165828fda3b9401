-- How many measures, rows and notes a text has at most, and how high a density or a spacing can be.
use mathlib.Core.Bool.{Bool}
use mathlib.Core.List.{List, [], ◌∷◌, map}
use Rattle.std.specs.Prelude.{Option, None, Some}
use Prim.Native.Nat.{ℕ, zero, suc, ◌+◌, ◌*◌, ◌/◌, ◌≤◌}
use native.Mathlib.Nat.{mul-suc}
use native.Mathlib.Omega.{arith}
use lib.ListN.{length, get_or, length-append, length-map}
use Rattle.std.proofs.lemmas.List.Sums.{count_by-le-length}
use Rattle.definitions.specs.Lists.{joined, number_of_bool}
use Rattle.definitions.specs.Lanes.{most_rows_in}
use Rattle.definitions.specs.Lines.{Row, cut}
use Rattle.definitions.specs.Measures.{measures, chart}
use Rattle.definitions.specs.Reduction.{reduce, minimised}
use Rattle.definitions.specs.Figures.{is_step, density, spacing, densities, spacings}
use Rattle.definitions.specs.Notes.{effect_at, tail_row_of, cell_notes, row_notes, notes_from, notes}
use Rattle.definitions.specs.Entries.{measure_count, row_count}
use Rattle.definitions.specs.declared.NoteEffect.{NoteEffect}
use Rattle.definitions.specs.declared.NoteEffect.TheVariants.{Nothing, Closes, Single, Head}
use Rattle.definitions.proofs.Lists.{All, one, one-le, all-joined}
use Rattle.definitions.proofs.ChartRows.{measure_bytes, measures-bytes, cut-bytes, minimised-narrow, minimised-rows-few}

-- ---- Measures
-- each measure takes two bytes
two_bytes : (ms : List (List Row)) → 2 * length ms ≤ measure_bytes ms
two_bytes [] = omega arith
two_bytes (m ∷ ms) = omega (arith, two_bytes ms)

-- "(len + 1) div 2 + 1" measures are the most that a text can have
pub measures-few : (L : ℕ) (text : List ℕ) → measure_count L text ≤ (length text + 1) / 2 + 1
unfolding minimised chart
measures-few L text =
    let ms = measures L (cut text) in
    omega (arith, length-map ms reduce, two_bytes ms, measures-bytes L (cut text), cut-bytes text)

-- ---- Rows
-- R rows are the most that a text can have
pub rows_few : (L : ℕ) (text : List ℕ) → 1 ≤ L → row_count L text ≤ most_rows_in L (length text)
rows_few L text w = minimised-rows-few L text w

-- ---- Densities and spacings
-- the rows of a measure are rows of the text
measure-few : (ms : List (List Row)) (k : ℕ) → get_or (map density ms) k 0 ≤ length (joined ms)
measure-few [] k = omega arith
measure-few (m ∷ ms) zero = omega (arith, count_by-le-length is_step m, length-append m (joined ms))
measure-few (m ∷ ms) (suc k) = omega (arith, measure-few ms k, length-append m (joined ms))

-- no density is over the count of the rows
pub density-few : (L : ℕ) (text : List ℕ) (k : ℕ) → get_or (densities L text) k 0 ≤ row_count L text
unfolding densities
density-few L text k = measure-few (minimised L text) k

ones-few : {A : Type 0} (p : A → Bool) (l : List A) (k : ℕ) → get_or (map (λ (a : A). number_of_bool (p a)) l) k 0 ≤ 1
ones-few p [] k = omega arith
ones-few p (a ∷ l) zero = one-le (p a)
ones-few p (a ∷ l) (suc k) = ones-few p l k

-- a spacing is 0 or 1
pub spacing-few : (L : ℕ) (text : List ℕ) (k : ℕ) → get_or (spacings L text) k 0 ≤ 1
unfolding spacings
spacing-few L text k = ones-few spacing (minimised L text) k

-- ---- Notes
-- at most one a cell
cell-few : (x : NoteEffect) (i c : ℕ) (t : Option ℕ) → length (cell_notes x i c t) ≤ 1
cell-few Nothing i c t = omega arith
cell-few Closes i c t = omega arith
cell-few (Single k) i c t = omega arith
cell-few (Head k) i c None = omega arith
cell-few (Head k) i c (Some j) = omega arith

row-few : (i c : ℕ) (r : Row) (rs : List Row) → length (row_notes i c r rs) ≤ length r
row-few i c [] rs = omega arith
row-few i c (b ∷ r) rs =
    rw length-append (omega (arith, cell-few (effect_at b) i c (tail_row_of c (suc i) rs), row-few i (suc c) r rs))

from-few : (L i : ℕ) (rs : List Row) → All (λ (r : Row). length r ≤ L) rs → length (notes_from i rs) ≤ L * length rs
from-few L i [] a = omega arith
from-few L i (r ∷ rs) (one h a) =
    rw (length-append, mul-suc) (omega (arith, row-few i 0 r rs, from-few L (suc i) rs a))

-- each row has at most L notes
pub notes-few : (L : ℕ) (text : List ℕ) → length (notes L text) ≤ L * row_count L text
unfolding notes
notes-few L text = from-few L 0 (joined (minimised L text)) (all-joined (minimised-narrow L text))
