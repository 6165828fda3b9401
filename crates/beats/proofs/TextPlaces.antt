-- Where the rows of a text stand: a measure has few bytes with those before it, each beat is that of a row, and the last object row is a row.
use mathlib.Core.Path.{◌≡◌, refl, ap, ap₂, sym, ◌∙◌, subst}
use mathlib.Core.Bool.{Bool, true, false}
use mathlib.Core.List.{List, [], ◌∷◌, ◌++◌}
use Prim.Native.Nat.{ℕ, zero, suc, ◌+◌, ◌-◌, ◌*◌, ◌≤◌, ◌<◌}
use native.Mathlib.Nat.{zero-add, add-zero, suc-add, add-suc, mul-le-mul_right}
use native.Mathlib.Omega.{arith}
use lib.ListN.{length, take, get_or, length-append}
use lib.Dec.{ltb}
use lib.Ieee.{Float, nan}
use borrow.Author.Tests.{ltb-true, ltb-false}
use Rattle.std.specs.Prelude.{Some}
use Rattle.std.proofs.lemmas.List.{get_or_append_left, get_or-append-add}
use Rattle.definitions.specs.Sizes.{most_bytes}
use Rattle.definitions.specs.Lists.{joined, only_if}
use Rattle.definitions.specs.Lanes.{most_rows_in}
use Rattle.definitions.specs.Lines.{Row, cut}
use Rattle.definitions.specs.Measures.{measures, chart}
use Rattle.definitions.specs.Reduction.{minimised}
use Rattle.definitions.specs.Beats.{beat_of_row, row_beats, beats_from}
use Rattle.definitions.specs.Objects.{Depths, after_row, after_rows, object_row, Place, objects_in, objects_from, last_of, last_object}
use Rattle.definitions.specs.Damage.{rows_of}
use Rattle.definitions.proofs.Lists.{All, none, one, all_append, all_map}
use Rattle.definitions.proofs.ChartRows.{line_bytes, cut-bytes, measure_bytes, measures-bytes, reduced-bytes, rows-bytes, minimised-rows}
use Rattle.beats.proofs.Beats.{length-beats, at-beats}

-- ---- Few bytes
measure-bytes : (ms : List (List Row)) (m : ℕ) → m < length ms → line_bytes (get_or ms m []) + 2 * m + 2 ≤ measure_bytes ms
measure-bytes [] m h = absurd (omega arith)
measure-bytes (x ∷ ms) zero h = omega arith
measure-bytes (x ∷ ms) (suc m) h = omega (arith, measure-bytes ms m (omega arith))

at : {P : List Row → Type 0} {ms : List (List Row)} (m : ℕ) → m < length ms → All P ms → P (get_or ms m [])
at m h none = absurd (omega arith)
at zero h (one p a) = p
at (suc m) h (one p a) = at m (omega arith) a

total : (L : ℕ) (text : List ℕ) → measure_bytes (minimised L text) ≤ length text + 3
unfolding minimised chart
total L text = omega (arith, reduced-bytes (measures L (cut text)), measures-bytes L (cut text), cut-bytes text)

-- the n rows of measure m take 5 bytes or more each, and each end of a measure before them 2
pub measure-fits : (L : ℕ) (text : List ℕ) (m : ℕ) → 4 ≤ L → length text ≤ most_bytes → m < length (minimised L text)
    → 5 * length (rows_of L m text) + 2 * m ≤ most_bytes + 1
measure-fits L text m w few h =
    let rows : List Row = rows_of L m text in
    let each : (L + 1) * length rows ≡ line_bytes rows = rows-bytes L rows (at m h (minimised-rows L text (omega arith))) in
    let least : 5 * length rows ≤ (L + 1) * length rows = mul-le-mul_right {m = 5} {n = L + 1} (length rows) (omega arith) in
    omega (arith, measure-bytes (minimised L text) m h, total L text)

pub rows-fit : (m n : ℕ) → 5 * n + 2 * m ≤ most_bytes + 1 → n ≤ most_rows_in 4 most_bytes
unfolding most_rows_in
rows-fit m n h = omega arith

-- ---- Beats
-- beat i of measures numbered from k: that of row r of their measure m
pub record RowAt (k : ℕ) (ms : List (List Row)) (i : ℕ) : Type 0 where
  pub m : ℕ
  pub r : ℕ
  pub measure : m < length ms
  pub row : r < length (get_or ms m [])
  pub place : i ≡ length (joined (take m ms)) + r
  pub beat : get_or (joined (beats_from k ms)) i nan ≡ beat_of_row (k + m) r (length (get_or ms m []))

-- there are as many as rows
pub as-many : (k : ℕ) (ms : List (List Row)) → length (joined (beats_from k ms)) ≡ length (joined ms)
as-many k [] = refl
as-many k (x ∷ ms) =
    omega (
      arith,
      length-append (row_beats k (length x) 0 (length x)) (joined (beats_from (suc k) ms)),
      length-beats k (length x) 0 (length x),
      length-append x (joined ms),
      as-many (suc k) ms,
    )

pub row_at : (k : ℕ) (ms : List (List Row)) (i : ℕ) → i < length (joined (beats_from k ms)) → RowAt k ms i
row_at k [] i h = absurd (omega arith)
row_at k (x ∷ ms) i h = go (row_at (suc k) ms) (ltb i n) refl
  where
    n : ℕ
    n = length x

    first : List Float
    first = row_beats k n 0 n

    others : List Float
    others = joined (beats_from (suc k) ms)

    size : length first ≡ n
    size = length-beats k n 0 n

    rest : i < n + length others
    rest = omega (arith, length-append first others, size)

    here : i < n → RowAt k (x ∷ ms) i
    here l =
        record {
          m = 0;
          r = i;
          measure = omega arith;
          row = l;
          place = sym (zero-add i);
          beat =
              get_or_append_left first others nan i (omega (arith, size))
              ∙ at-beats k n 0 n i l
              ∙ ap₂ (λ z j. beat_of_row z j n) (sym (add-zero k)) (zero-add i);
        }

    later : (j : ℕ) → i ≡ n + j → RowAt (suc k) ms j → RowAt k (x ∷ ms) i
    later j e y =
        record {
          m = suc y.m;
          r = y.r;
          measure = omega (arith, y.measure);
          row = y.row;
          place = omega (arith, y.place, length-append x (joined (take y.m ms)));
          beat =
              ap (λ z. get_or (first ++ others) z nan) (e ∙ ap (λ z. z + j) (sym size))
              ∙ get_or-append-add first others j nan
              ∙ y.beat
              ∙ ap (λ z. beat_of_row z y.r (length (get_or ms y.m []))) (suc-add k y.m ∙ sym (add-suc k y.m));
        }

    go : ((j : ℕ) → j < length others → RowAt (suc k) ms j) → (t : Bool) → ltb i n ≡ t → RowAt k (x ∷ ms) i
    go ih true e = here (ltb-true i n e)
    go ih false e =
        let past : n ≤ i = ltb-false i n e in
        later (i - n) (omega arith) (ih (i - n) (omega (arith, rest)))

-- ---- The last object row
record InRows (m n b : ℕ) (p : Place) : Type 0 where
  measure : p.m ≡ m
  rows : p.n ≡ n
  row : p.r < b

objects-in : (D : Depths) (m r n : ℕ) (xs : List Row) → All (InRows m n (r + length xs)) (objects_in D m r n xs)
objects-in D m r n [] = none
objects-in D m r n (x ∷ xs) =
    all_append (first (object_row D x))
    (all_map (λ p h. record { measure = h.measure; rows = h.rows; row = omega (arith, h.row) }) (objects-in (after_row D x) m (suc r) n xs))
  where
    first : (t : Bool) → All (InRows m n (r + length (x ∷ xs))) (only_if t (record { m = m; r = r; n = n } ∷ []))
    first true = one (record { measure = refl; rows = refl; row = omega arith }) none
    first false = none

-- an object row of measures numbered from k: row p.r of the p.n rows of measure p.m, which is measure j of these
pub record ObjectAt (k : ℕ) (ms : List (List Row)) (p : Place) : Type 0 where
  pub j : ℕ
  pub number : p.m ≡ k + j
  pub measure : j < length ms
  pub rows : p.n ≡ length (get_or ms j [])
  pub row : p.r < p.n

objects-from : (D : Depths) (k : ℕ) (ms : List (List Row)) → All (ObjectAt k ms) (objects_from D k ms)
objects-from D k [] = none
objects-from D k (x ∷ ms) =
    all_append
    (all_map (λ p h. record { j = 0; number = omega (arith, h.measure); measure = omega arith; rows = h.rows; row = omega (arith, h.row, h.rows) })
    (objects-in D k 0 (length x) x))
    (all_map (λ p h. record { j = suc h.j; number = omega (arith, h.number); measure = omega (arith, h.measure); rows = h.rows; row = h.row })
    (objects-from (after_rows D x) (suc k) ms))

last-holds : {P : Place → Type 0} {l : List Place} {p : Place} → All P l → last_of l ≡ Some p → P p
last-holds none e = let z : ◌≡◌ {A = ℕ} 0 1 = cc in absurd (omega arith)
last-holds {P} (one h none) e = subst P (cc) h
last-holds (one h (one g a)) e = last-holds (one g a) e

pub last-at : (L : ℕ) (text : List ℕ) (p : Place) → last_object L text ≡ Some p → ObjectAt 0 (minimised L text) p
unfolding last_object
last-at L text p e = last-holds (objects-from (λ c. 0) 0 (minimised L text)) e
