-- The note records of an accepted text.
use mathlib.Core.Path.{◌≡◌, refl, ap, sym, ◌∙◌, subst}
use mathlib.Core.Bool.{Bool, true, false, true≢false, false≢true}
use mathlib.Core.List.{List, [], ◌∷◌, map}
use Prim.Native.Nat.{ℕ, zero, ◌<◌}
use native.Mathlib.Nat.{zero-add}
use native.Mathlib.Omega.{arith}
use lib.ListN.{length, get_or, replicate}
use Rattle.std.specs.Prelude.{Ok, Result}
use Rattle.definitions.specs.declared.Refusal.{Refusal}
use Rattle.definitions.specs.Sizes.{row_numbers_bound}
use Rattle.definitions.specs.Notes.{notes}
use Rattle.definitions.specs.Lists.{among}
use Rattle.definitions.specs.Records.{number_of_kind, number_of_tail, records, note_of_record}
use Rattle.definitions.specs.Refusals.{number_told, replaces}
use Rattle.definitions.specs.Entries.{figures_of_note}
use Rattle.definitions.specs.WriterMakes.{TailMade, Made, ReadsBack, WriterMakes}
use Rattle.definitions.specs.Consequences.{RecordsRead, RecordsTold, NotesInRange, LimitsSuffice, RecordsOfTexts}
use Rattle.definitions.specs.declared.Kind.{Kind}
use Rattle.definitions.specs.declared.Kind.TheVariants.{Tap, Hold, Roll, Mine, Lift, Fake}
use Rattle.definitions.specs.declared.Tail.{Tail}
use Rattle.definitions.specs.declared.Tail.TheVariants.{Without, Row}
use Rattle.definitions.specs.declared.Note.{Note}
use Rattle.definitions.proofs.Lists.{all-from_index}
use Rattle.definitions.proofs.ReadBack.{read_back}
use Rattle.definitions.proofs.WriterMakes.{no_note, stands_at}
use Rattle.definitions.proofs.Consequences.Places.{got, by-places}

zeros : {A : Type 0} (s : List A) → map (λ a. zero) s ≡ replicate (length s) zero
zeros [] = refl
zeros (a ∷ s) = ap (λ l. 0 ∷ l) (zeros s)

abbrev is_held : Kind → Bool
is_held k = among (number_of_kind k) (1 ∷ 2 ∷ [])

tail-told : (r : ℕ) (k : Kind) (t : Tail) → TailMade r k t → is_held k ≡ true → (r < number_of_tail t) × (number_of_tail t < row_numbers_bound)
tail-told r Tap t m e = absurd (false≢true e)
tail-told r Hold Without m e = absurd m
tail-told r Hold (Row j) m e = (omega (arith, m.0), omega (arith, m.1))
tail-told r Roll Without m e = absurd m
tail-told r Roll (Row j) m e = (omega (arith, m.0), omega (arith, m.1))
tail-told r Mine t m e = absurd (false≢true e)
tail-told r Lift t m e = absurd (false≢true e)
tail-told r Fake t m e = absurd (false≢true e)

no-tail : (r : ℕ) (k : Kind) (t : Tail) → TailMade r k t → is_held k ≡ false → number_of_tail t ≡ 4294967295
no-tail r k Without m e = refl
no-tail r Tap (Row j) m e = absurd m
no-tail r Hold (Row j) m e = absurd (true≢false e)
no-tail r Roll (Row j) m e = absurd (true≢false e)
no-tail r Mine (Row j) m e = absurd m
no-tail r Lift (Row j) m e = absurd m
no-tail r Fake (Row j) m e = absurd m

module _ (ns : List Note) (r : (k : ℕ) → k < length ns → ReadsBack ns k) where
  records-read : RecordsRead ns
  records-read =
      by-places (note_of_record (records ns)) Ok ns 0
      (λ k h. let b = r k h in (b.note, b.stands, ap (note_of_record (records ns)) (zero-add k) ∙ b.read))

  records-told : RecordsTold ns
  records-told old = (
    by-places (λ k. number_told (note_of_record (records ns) k)) (λ n. 0) ns 0
        (λ k h. let b = r k h in (b.note, b.stands, ap (λ k. number_told (note_of_record (records ns) k)) (zero-add k) ∙ ap number_told b.read))
        ∙ zeros ns,
    by-places (λ k. replaces (note_of_record (records ns) k) figures_of_note old) figures_of_note ns 0
        (λ k h. let b = r k h in (b.note, b.stands, ap (λ k. replaces (note_of_record (records ns) k) figures_of_note old) (zero-add k) ∙ ap (λ (r : Result Note Refusal). replaces r figures_of_note old) b.read)),
  )

  made-at : (k : ℕ) (d : Note) → k < length ns → Made (get_or ns k d)
  made-at k d h = let b = r k h in subst Made (sym (got ns k b.note d b.stands)) b.limits

  notes-in_range : NotesInRange ns
  notes-in_range = (
    λ k d h. (made-at k d h).row,
    λ k d h. let n = get_or ns k d in tail-told n.row n.kind n.tail (made-at k d h).tail,
    λ k d h. let n = get_or ns k d in no-tail n.row n.kind n.tail (made-at k d h).tail,
    λ k d h. (made-at k d h).column,
    λ k d h. (made-at k d h).kind,
  )

pub records-of_texts : WriterMakes → RecordsOfTexts
unfolding WriterMakes RecordsOfTexts
records-of_texts w L some few text short =
    let ns = notes L text in
    let r = w L some few text short in
    (records-read ns r, records-told ns r, notes-in_range ns r)

pub limits-suffice : LimitsSuffice
unfolding LimitsSuffice
limits-suffice ns made =
    by-places (note_of_record (records ns)) Ok ns 0
    (λ k h. (
      get_or ns k no_note,
      stands_at ns k h,
      ap (note_of_record (records ns)) (zero-add k) ∙ read_back ns no_note k (all-from_index Made ns made) h,
    ))
