-- What the writer makes: every note of an accepted text keeps the limits, and its record is read back as that note.
use mathlib.Core.Path.{◌≡◌, refl}
use mathlib.Core.List.{List, [], ◌∷◌}
use Rattle.std.specs.Prelude.{Option, Some, None}
use Prim.Native.Nat.{ℕ, zero, suc, ◌+◌, ◌≤◌, ◌<◌}
use native.Mathlib.Nat.{div-le_self}
use native.Mathlib.Omega.{arith}
use lib.ListN.{length, get_or}
use Rattle.std.specs.Prelude.{slice_get}
use Rattle.definitions.specs.Sizes.{most_bytes, row_numbers_bound}
use Rattle.definitions.specs.Lists.{joined}
use Rattle.definitions.specs.Lanes.{most_rows_in}
use Rattle.definitions.specs.Lines.{Row}
use Rattle.definitions.specs.Cells.{cell_of}
use Rattle.definitions.specs.Reduction.{minimised}
use Rattle.definitions.specs.Notes.{effect_of, effect_at, tail_row_of, cell_notes, row_notes, notes_from, notes}
use Rattle.definitions.specs.Records.{number_of_kind}
use Rattle.definitions.specs.WriterMakes.{TailMade, Made, ReadsBack, WriterMakes}
use Rattle.definitions.specs.declared.Cell.{Cell}
use Rattle.definitions.specs.declared.Cell.TheVariants as cell
use Rattle.definitions.specs.declared.Kind.{Kind}
use Rattle.definitions.specs.declared.Kind.TheVariants.{Tap, Hold, Roll, Mine, Lift, Fake}
use Rattle.definitions.specs.declared.Tail.TheVariants as tail
use Rattle.definitions.specs.declared.Note.{Note}
use Rattle.definitions.specs.declared.NoteEffect.{NoteEffect}
use Rattle.definitions.specs.declared.NoteEffect.TheVariants.{Nothing, Closes, Single, Head}
use Rattle.definitions.proofs.Lists.{All, none as no_more, one, all_append, all_map, all-joined}
use Rattle.definitions.proofs.ChartRows.{minimised-rows, minimised-rows-few}
use Rattle.definitions.proofs.Tails.{tail_within}
use Rattle.definitions.proofs.ReadBack.{all-at, read_back}

-- ---- The limits
pub kind-below : (k : Kind) → number_of_kind k < 6
kind-below Tap = omega arith
kind-below Hold = omega arith
kind-below Roll = omega arith
kind-below Mine = omega arith
kind-below Lift = omega arith
kind-below Fake = omega arith

-- the kinds of heads are hold and roll
abbrev Proper : NoteEffect → Type 0
Proper Nothing = Unit {0}
Proper Closes = Unit {0}
Proper (Single k) = (i : ℕ) → TailMade i k tail.Without
Proper (Head k) = (i j : ℕ) → (i < j) × (j < row_numbers_bound) → TailMade i k (tail.Row j)

proper : (x : Cell) → Proper (effect_of x)
proper cell.Empty = tt
proper cell.Tap = λ i. tt
proper cell.Hold = λ i j h. (omega (arith, h.0), h.1)
proper cell.Tail = tt
proper cell.Roll = λ i j h. h
proper cell.Mine = λ i. tt
proper cell.Lift = λ i. tt
proper cell.Fake = λ i. tt
proper cell.KeySound = tt
proper cell.LowerMine = λ i. tt
proper cell.LowerLift = λ i. tt
proper cell.LowerFake = λ i. tt

proper-at : (b : ℕ) → Proper (effect_at b)
unfolding effect_at
proper-at b = proper (cell_of b)

made-cell : (x : NoteEffect) → Proper x → (i c : ℕ) → i < row_numbers_bound → c < 10 → (t : Option ℕ) → ((j : ℕ) → t ≡ Some j → (i < j) × (j < row_numbers_bound))
    → All Made (cell_notes x i c t)
made-cell Nothing p i c hi hc t h = no_more
made-cell Closes p i c hi hc t h = no_more
made-cell (Single k) p i c hi hc t h = one (record { column = omega (arith, hc); kind = omega (arith, kind-below k); row = omega (arith, hi); tail = p i }) no_more
made-cell (Head k) p i c hi hc None h = no_more
made-cell (Head k) p i c hi hc (Some j) h = one (record { column = omega (arith, hc); kind = omega (arith, kind-below k); row = omega (arith, hi); tail = p i j (h j refl) }) no_more

made_row : (i c : ℕ) (bs : Row) (rs : List Row) → i + suc (length rs) ≤ row_numbers_bound → c + length bs ≤ 10 → All Made (row_notes i c bs rs)
made_row i c [] rs h w = no_more
made_row i c (b ∷ bs) rs h w =
    all_append
    (made-cell (effect_at b) (proper-at b) i c (omega arith) (omega arith) (tail_row_of c (suc i) rs) (λ j e. let t = tail_within c (suc i) rs j e in omega arith))
    (made_row i (suc c) bs rs h (omega arith))

-- the notes of rows of at most ten cells, numbered below 16,777,216
made-notes : (i : ℕ) (rs : List Row) → i + length rs ≤ row_numbers_bound → All (λ r. length r ≤ 10) rs → All Made (notes_from i rs)
made-notes i [] h no_more = no_more
made-notes i (r ∷ rs) h (one g w) =
    all_append (made_row i zero r rs h (omega arith)) (made-notes (suc i) rs (omega arith) w)

-- a text that is accepted has rows of at most ten cells, and few enough of them
module _ (L : ℕ) (some_lane : 1 ≤ L) (ten-lanes : L ≤ 10) (text : List ℕ) (short : length text ≤ most_bytes) where
  narrow : All (λ r. length r ≤ 10) (joined (minimised L text))
  narrow = all_map (λ r x. omega (arith, x.size)) (all-joined (minimised-rows L text some_lane))

  few : length (joined (minimised L text)) ≤ row_numbers_bound
  unfolding most_rows_in
  few = omega (arith, minimised-rows-few L text some_lane, div-le_self (length text + 1) (L + 1))

  made : All Made (notes L text)
  unfolding notes
  made = made-notes 0 (joined (minimised L text)) (omega (arith, few)) narrow

-- ---- Reading back
-- a note to name where there is none
pub no_note : Note
no_note = record { row = 0; tail = tail.Without; column = 0; kind = Tap }

pub stands_at : (ns : List Note) (k : ℕ) → k < length ns → slice_get ns k ≡ Some (get_or ns k no_note)
stands_at [] k h = absurd (omega arith)
stands_at (n ∷ ns) zero h = refl
stands_at (n ∷ ns) (suc k) h = stands_at ns k (omega arith)

reads-back : (ns : List Note) → All Made ns → (k : ℕ) → k < length ns → ReadsBack ns k
reads-back ns all k h =
    record {
      note = get_or ns k no_note;
      stands = search (stands_at ns k h);
      limits = all-at ns no_note k all h;
      read = search (read_back ns no_note k all h);
    }

-- at every lane count from 1 to 10
pub records-read : (L : ℕ) → 1 ≤ L → L ≤ 10 → (text : List ℕ) → length text ≤ most_bytes → (k : ℕ) → k < length (notes L text) → ReadsBack (notes L text) k
records-read L some few text short k h = reads-back (notes L text) (made L some few text short) k h

pub writer-makes : WriterMakes
unfolding WriterMakes
writer-makes = records-read
