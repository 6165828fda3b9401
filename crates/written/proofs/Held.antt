-- What the checks have found of the notes.
use mathlib.Core.Path.{◌≡◌}
use mathlib.Core.Bool.{true, ◌&&◌}
use mathlib.Core.List.{List, [], ◌∷◌}
use Prim.Native.Nat.{ℕ, zero, suc, ◌<◌}
use lib.ListN.{take}
use Rattle.definitions.specs.Sizes.{row_numbers_bound}
use Rattle.definitions.specs.WriterMakes.{TailMade, Made}
use Rattle.definitions.specs.Written.{last_of, notes_in, within_lanes, out_of_order}
use Rattle.definitions.specs.declared.Note.{Note}
use Rattle.definitions.specs.declared.Kind.{Kind}
use Rattle.definitions.specs.declared.Kind.TheVariants.{Tap, Hold, Roll, Mine, Lift, Fake}
use Rattle.definitions.specs.declared.Tail.{Tail}
use Rattle.definitions.specs.declared.Tail.TheVariants as tail
use Rattle.definitions.proofs.Lists.{All, none, one}
use Rattle.definitions.proofs.Bools.{and_left, and_right}
use Rattle.definitions.proofs.Written.Notes.{Sorted, in_order, is-sorted}
use Rattle.definitions.proofs.Written.Reads.{not-false, all-within}
use Rattle.note_records.specs.Limits.{Limited}
use Rattle.note_records.proofs.Kept.{held}
use Rattle.written.specs.Apart.{Rising, Apart}

module _ {L : ℕ} {s : List ℕ} (o : Rising L s) where
  ordered : (in_order (notes_in s) && within_lanes L (notes_in s)) ≡ true
  unfolding out_of_order
  ordered = not-false (in_order (notes_in s) && within_lanes L (notes_in s)) o.order

  pub rising : in_order (notes_in s) ≡ true
  rising = and_left (in_order (notes_in s)) (within_lanes L (notes_in s)) ordered

  pub columns : All (λ y. y.column < L) (notes_in s)
  columns = all-within L (notes_in s) (and_right (in_order (notes_in s)) (within_lanes L (notes_in s)) ordered)

pub sorted : {L : ℕ} {s : List ℕ} → Apart L s → Sorted (notes_in s)
sorted {L} {s} o = is-sorted (notes_in s) (held o.rising.limited).made (rising o.rising) o.apart

pub reach-low : {n : Note} → Made n → last_of n.row n.tail < row_numbers_bound
reach-low {n} m = go n.kind n.tail m.tail
  where
    go : (k : Kind) (t : Tail) → TailMade n.row k t → last_of n.row t < row_numbers_bound
    go k tail.Without h = m.row
    go Tap (tail.Row j) h = absurd h
    go Hold (tail.Row j) h = h.1
    go Roll (tail.Row j) h = h.1
    go Mine (tail.Row j) h = absurd h
    go Lift (tail.Row j) h = absurd h
    go Fake (tail.Row j) h = absurd h

pub made-all : {s : List ℕ} → Limited s → All Made (notes_in s)
made-all k = (held k).made

pub made-before : {s : List ℕ} → Limited s → (i : ℕ) → All Made (take i (notes_in s))
made-before {s} k i = go i (notes_in s) (made-all k)
  where
    go : (i : ℕ) (l : List Note) → All Made l → All Made (take i l)
    go zero [] none = none
    go zero (x ∷ l) a = none
    go (suc i) [] none = none
    go (suc i) (x ∷ l) (one m a) = one m (go i l a)
