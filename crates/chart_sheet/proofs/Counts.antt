-- How many entries the lists of a sheet have, how large their numbers are, and that they have room.
use mathlib.Core.Path.{◌≡◌}
use mathlib.Core.List.{List}
use Prim.Native.Nat.{ℕ, ◌+◌, ◌*◌, ◌/◌, ◌<◌, ◌≤◌}
use native.Mathlib.Nat.{mul-suc, mul_comm, mul-le-mul_right, div-le_self, le-div_iff_mul-le}
use native.Mathlib.Numerals.{add-one}
use native.Mathlib.Omega.{arith}
use lib.ListN.{length, get_or, length-map}
use Rattle.definitions.specs.Sizes.{most_bytes}
use Rattle.definitions.specs.Lists.{number_of_bool}
use Rattle.definitions.specs.Lanes.{most_rows_in}
use Rattle.definitions.specs.Lines.{Row}
use Rattle.definitions.specs.Reduction.{minimised}
use Rattle.definitions.specs.Figures.{density, spacing, densities, spacings}
use Rattle.definitions.specs.Notes.{notes}
use Rattle.definitions.specs.Records.{records}
use Rattle.definitions.specs.Entries.{measure_count, row_count}
use Rattle.definitions.specs.WriterMakes.{TailMade, ReadsBack}
use Rattle.definitions.specs.declared.Kind.{Kind}
use Rattle.definitions.specs.declared.Kind.TheVariants.{Tap, Hold, Roll, Mine, Lift, Fake}
use Rattle.definitions.specs.declared.Tail.TheVariants as tail
use Rattle.definitions.specs.declared.Note.{Note}
use Rattle.definitions.proofs.Counts.{measures-few, rows_few, density-few, spacing-few, notes-few}
use Rattle.definitions.proofs.ReadBack.{records-length}
use Rattle.definitions.proofs.WriterMakes.{records-read}

-- there is a density and a spacing for each measure
pub densities-count : (L : ℕ) (text : List ℕ) → length (densities L text) ≡ measure_count L text
unfolding densities
densities-count L text = length-map (minimised L text) density

pub spacings-count : (L : ℕ) (text : List ℕ) → length (spacings L text) ≡ measure_count L text
unfolding spacings
spacings-count L text = length-map (minimised L text) (λ (m : List Row). number_of_bool (spacing m))

-- and a record for each note
pub records-count : (ns : List Note) → length (records ns) / 10 ≡ length ns
records-count ns = omega (arith, records-length ns)

-- R rows of L cells and a line's end each are no longer than the text with one line's end more
parts-room : (len L R : ℕ) → R ≤ (len + 1) / (L + 1) → L * R + R ≤ len + 1
parts-room len L R h =
    let some : 0 < L + 1 = omega arith in
    omega (arith, rw (add-one L, mul-suc, mul_comm R L) at ((le-div_iff_mul-le some).0 h))

cells-few : (L R : ℕ) → L ≤ 10 → L * R ≤ 10 * R
cells-few L R h = mul-le-mul_right R h

shares : (len LR R M N : ℕ) → LR ≤ 10 * R → LR + R ≤ len + 1 → M ≤ (len + 1) / 2 + 1 → N ≤ LR → 22 * M + 32 * N ≤ 41 * (len + 1) + 22
shares len LR R M N a b c d = omega arith

module _ (L : ℕ) (some : 1 ≤ L) (ten : L ≤ 10) (text : List ℕ) where
  -- 22 bytes a measure, 32 a note and 2,600 beside them
  pub room-enough : (heads entries lines : ℕ) → heads ≤ 2600 → entries ≤ 22 * measure_count L text
      → lines ≤ 32 * length (notes L text) → heads + entries + lines + 300 ≤ 42 * (length text + 1) + 3000
  unfolding most_rows_in
  room-enough heads entries lines a b c =
      let R = row_count L text in
      omega (
        arith,
        shares (length text) (L * R) R (measure_count L text) (length (notes L text))
            (cells-few L R ten)
            (parts-room (length text) L R (rows_few L text some))
            (measures-few L text)
            (notes-few L text),
      )

module _ (L : ℕ) (some : 1 ≤ L) (ten : L ≤ 10) (text : List ℕ) (short : length text ≤ most_bytes) where
  -- numbers of at most eight digits
  pub measure-below : (k : ℕ) → k < measure_count L text → k < 100000000
  measure-below k h = omega (arith, measures-few L text)

  pub density-below : (k : ℕ) → get_or (densities L text) k 0 < 100000000
  unfolding most_rows_in
  density-below k =
      omega (arith, density-few L text k, rows_few L text some, div-le_self (length text + 1) (L + 1))

  -- what record k is read as
  pub reads : (k : ℕ) → k < length (notes L text) → ReadsBack (notes L text) k
  reads k h = records-read L some ten text short k h

-- a digit
pub spacing-below : (L : ℕ) (text : List ℕ) (k : ℕ) → get_or (spacings L text) k 0 < 10
spacing-below L text k = omega (arith, spacing-few L text k)

-- a tail has at most eight digits
pub tail-below : (r : ℕ) (k : Kind) (j : ℕ) → TailMade r k (tail.Row j) → j < 100000000
tail-below r Tap j m = absurd m
tail-below r Hold j m = omega arith
tail-below r Roll j m = omega arith
tail-below r Mine j m = absurd m
tail-below r Lift j m = absurd m
tail-below r Fake j m = absurd m
