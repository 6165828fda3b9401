-- The notes headed before the damaged measure, and those of the heads that are open there.
use mathlib.Core.Path.{◌≡◌, refl, ap, sym, ◌∙◌, subst}
use mathlib.Core.Logic.{◌⊎◌, inl, inr}
use mathlib.Core.Bool.{Bool, true, false, not, true≢false}
use mathlib.Core.List.{List}
use Prim.Native.Nat.{ℕ, ◌≤◌}
use native.Mathlib.Omega.{arith}
use borrow.Author.Tests.{le-ltb, lt-ltb}
use lib.Dec.{ltb}
use lib.ListN.{length}
use Rattle.std.specs.List.{filter}
use Rattle.definitions.specs.Lines.{Row}
use Rattle.definitions.specs.Notes.{notes}
use Rattle.definitions.specs.Entries.{row_count}
use Rattle.definitions.specs.Damage.{DamageStays, rows_above, earlier, open_in, byte_in, head_kind, MissingOrLate}
use Rattle.definitions.specs.Consequences.{NothingOpen, lies_before, NotesBefore, tail_within, OpenHeads}
use Rattle.definitions.specs.declared.Kind.{Kind}
use Rattle.definitions.specs.declared.Tail.TheVariants as tail
use Rattle.definitions.specs.declared.Note.{Note}
use Rattle.definitions.proofs.Bools.{and_left, and-false}
use Rattle.definitions.proofs.Lists.{All, none, one, all_map, all-by_index, filter-all}
use Rattle.definitions.proofs.Consequences.Filters.{not-true, each, in-filter, under, here, by-place}

abbrev row_of : Note → ℕ
row_of n = n.row

abbrev column_of : Note → ℕ
column_of n = n.column

-- what is headed where a note is missing or late
missing-or-late : {P : Note → Type 0} (s n i c : ℕ) (k : Kind) (ns : List Note) → MissingOrLate s n i c k ns
    → ((x : Note) → x.kind ≡ k → lies_before s x ≡ false → tail_within n x.tail ≡ true → P x) → All P (filter (here row_of column_of i c) ns)
unfolding MissingOrLate
missing-or-late {P} s n i c k ns (inl e) f = subst (All P) (sym e) none
missing-or-late {P} s n i c k ns (inr (j, late, there, e)) f =
    let x : Note = record { row = i; tail = tail.Row j; column = c; kind = k } in
    subst (All P) (sym e) (one (f x refl (rw (le-ltb j s (omega (arith, late))) (and-false (ltb i s))) (lt-ltb j n (omega (arith, there)))) none)

one-at_most : (s n i c : ℕ) (k : Kind) (ns : List Note) → MissingOrLate s n i c k ns → length (filter (here row_of column_of i c) ns) ≤ 1
unfolding MissingOrLate
one-at_most s n i c k ns (inl e) = omega (arith, ap length e)
one-at_most s n i c k ns (inr (j, late, there, e)) = omega (arith, ap length e)

module _ {L d : ℕ} {old new : List ℕ} (x : DamageStays L d old new) where
  abbrev rows : List Row
  rows = rows_above L d old

  abbrev shut : Note → Bool
  shut n = not (open_in rows n.row n.column)

  same_shut : filter shut (earlier L d old) ≡ filter shut (earlier L d new)
  same_shut = x.earlier_notes ∙ ap (λ ps. filter (λ n. not (open_in ps n.row n.column)) (earlier L d new)) (sym x.same_before)

  pub nothing-open : NothingOpen L d old new
  nothing-open h =
      let all : (l : List Note) → filter shut l ≡ l = λ l. filter-all shut (each (λ n. rw (h n.row n.column)) l) in
      sym (all (earlier L d old)) ∙ same_shut ∙ all (earlier L d new)

  -- of either text: its notes before d are among those that are not open
  before-shut : (text : List ℕ) → rows_above L d old ≡ rows_above L d text
      → ((i c : ℕ) → open_in rows i c ≡ true → MissingOrLate (length rows) (row_count L text) i c (head_kind (byte_in rows i c)) (notes L text))
      → filter (lies_before (length rows)) (notes L text) ≡ filter (lies_before (length rows)) (filter shut (earlier L d text))
  before-shut text e late =
      let p : Note → Bool = lies_before (length rows) in
      let q : Note → Bool = λ n. ltb n.row (length rows) in
      let shut-before : All (λ n. p n ≡ true → shut n ≡ true) (notes L text) =
      all_map (λ n h l. not-true (open_in rows n.row n.column) (λ o. true≢false (sym l ∙ h o)))
      (by-place row_of column_of {Q = λ n. p n ≡ false} (open_in rows) (notes L text) (λ i c o. missing-or-late _ _ i c _ (notes L text) (late i c o) (λ n k l t. l))) in
      sym (under p q (each (λ n h. and_left (q n) _ h) (notes L text)))
      ∙ sym (under p shut (in-filter q shut-before))
      ∙ ap (λ ps. filter p (filter shut (filter (λ n. ltb n.row (length ps)) (notes L text)))) e

  pub notes-before : NotesBefore L d old new
  notes-before =
      before-shut old refl (λ i c o. (x.open_heads i c o).0)
      ∙ ap (filter (lies_before (length rows))) same_shut
      ∙ sym (before-shut new x.same_before (λ i c o. (x.open_heads i c o).1))
      ∙ ap (λ ps. filter (lies_before (length ps)) (notes L new)) x.same_before

  pub open-heads : OpenHeads L d old new
  open-heads i c o text e = (
    one-at_most (length rows) (row_count L text) i c (head_kind (byte_in rows i c)) (notes L text) (of e),
    all-by_index Late (missing-or-late (length rows) (row_count L text) i c (head_kind (byte_in rows i c)) (notes L text) (of e) (λ n k l t. (k, t))),
  )
    where
      Late : Note → Type 0
      Late n = (n.kind ≡ head_kind (byte_in rows i c)) × (tail_within (row_count L text) n.tail ≡ true)

      of : (text ≡ old) ⊎ (text ≡ new) → MissingOrLate (length rows) (row_count L text) i c (head_kind (byte_in rows i c)) (notes L text)
      of (inl e) = rw e (x.open_heads i c o).0
      of (inr e) = rw e (x.open_heads i c o).1
