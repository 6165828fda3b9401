-- What follows from the theorems on written charts alone. Lists and tests are told by numbers, so that a field that says less gives too little.
use mathlib.Core.Path.{◌≡◌, refl, ap, ap₂, sym, ◌∙◌}
use mathlib.Core.Bool.{Bool, true, false, cond, ◌&&◌, ◌||◌}
use mathlib.Core.List.{List, [], ◌∷◌}
use Rattle.std.specs.Prelude.{Ok, count_by, is_err}
use Prim.Native.Nat.{ℕ, zero, suc, ◌+◌, ◌/◌, ◌%◌, ◌≤◌, ◌<◌}
use native.Mathlib.Nat.{zero-add}
use native.Mathlib.Omega.{arith}
use borrow.Author.Tests.{eq-eqb, le-ltb, le-leb, lt-leb}
use lib.Dec.{eqb, leb}
use lib.ListN.{length, drop, get_or, drop_of_length-le}
use Rattle.definitions.specs.Sizes.{most_bytes}
use Rattle.definitions.specs.Lists.{number_of_bool, among}
use Rattle.definitions.specs.Lanes.{is_lane_count}
use Rattle.definitions.specs.Notes.{notes}
use Rattle.definitions.specs.Records.{records, note_of_record}
use Rattle.definitions.specs.Refusals.{number_told, refused_if, answered, other_lanes, long_text}
use Rattle.definitions.specs.WriterMakes.{ReadsBack, WriterMakes}
use Rattle.definitions.specs.DroppedOrNoted.{listed, DroppedOrNoted}
use Rattle.definitions.specs.Written.{tailed, written_text, written_measures, written_length, note_and, notes_from_record, notes_in, some_breaks, uneven_records, broken_records, out_of_order, last_of, some_meet, some_shrink, other_counts}
use Rattle.definitions.specs.WrittenBack.{row_counts, written_letters, some_tailed, clashes, takes, WrittenReadsBack, ReadNotesPass, ComesBackExactly, MeetsAsAsked, WrittenLengthShort}
use Rattle.definitions.specs.Entries.{figures_of_written, written_answer}
use Rattle.definitions.specs.WrittenExamples as charts
use Rattle.definitions.specs.WrittenConsequences.{ToldByText, HeadsNoted, FigureIsLength, UneditedAnswered, NothingElseLost, CannotComeBack, MeetsToTheTail, WrittenExamplesCounted}
use Rattle.definitions.specs.declared.Note.{Note}
use Rattle.definitions.specs.declared.DroppedHead.{DroppedHead}
use Rattle.definitions.specs.declared.WrittenFigures.{WrittenFigures}
use Rattle.definitions.specs.declared.Refusal.TheVariants.{ShortText, OtherCounts}
use Rattle.definitions.proofs.Lists.{count-cons}
use Rattle.definitions.proofs.ReadBack.{records-length}
use Rattle.definitions.proofs.WriterMakes.{no_note}
use Rattle.definitions.proofs.Consequences.Places.{got}
use Rattle.definitions.proofs.Written.Same.{same-list, is-true, is-false, none-listed}
use Rattle.definitions.proofs.Written.Notes.{last, reach-of}
use Rattle.definitions.proofs.Written.Records.{next-drop}
use Rattle.definitions.proofs.Written.Reads.{lane-within, passed}
use Rattle.definitions.proofs.Written.AsAsked.{takes-is}

-- ---- Of what is accepted
pub told-by_text : WrittenReadsBack → ToldByText
unfolding WrittenReadsBack ToldByText
told-by_text back L s t counts others a b e =
    let w = written_text L (notes_in s) counts in
    let v = written_text L (notes_in t) others in
    let x = back L s counts a.room a.figures a.bytes a.answer in
    let y = back L t others b.room b.figures b.bytes b.answer in
    let texts : w ≡ v = same-list w v (λ f. omega (arith, ap f x.text_back, ap f y.text_back, ap f e)) in (
      same-list s t (λ f. omega (arith, ap f x.records_back, ap f y.records_back, ap (λ z. f (records (notes L z))) texts)),
      same-list counts others (λ f. omega (arith, ap f x.counts_back, ap f y.counts_back, ap (λ z. f (row_counts L z)) texts)),
    )

pub heads-noted : WrittenReadsBack → ((L : ℕ) (text : List ℕ) → DroppedOrNoted L text) → HeadsNoted
unfolding WrittenReadsBack HeadsNoted
heads-noted back heads L s counts a i c h =
    let text = written_text L (notes_in s) counts in
    let x = back L s counts a.room a.figures a.bytes a.answer in
    omega (arith, (heads L text).heads i c h, ap (listed i c) x.none_dropped, none-listed i c)

pub figure-is_length : WrittenReadsBack → FigureIsLength
unfolding WrittenReadsBack FigureIsLength figures_of_written
figure-is_length back L s counts a =
    let x = back L s counts a.room a.figures a.bytes a.answer in
    let p = passed L s counts a.room a.figures a.answer in
    (omega (arith, ap (λ (f : WrittenFigures). f.bytes) p.told, x.size), omega (arith, p.short, x.size))

-- ---- Of what is read and not edited
-- records that are read back pass 7 and 8, and have these notes
module _ (ns : List Note) (r : (k : ℕ) → k < length ns → ReadsBack ns k) where
  read-at : (k : ℕ) → k < length ns → note_of_record (records ns) k ≡ Ok (get_or ns k no_note)
  read-at k h = let b = r k h in b.read ∙ ap Ok (sym (got ns k b.note no_note b.stands))

  count : length (records ns) / 10 ≡ length ns
  count = omega (arith, records-length ns)

  read-from : (k n : ℕ) → k + n ≡ length ns → notes_from_record (records ns) k n ≡ drop k ns
  read-from k zero e = sym (drop_of_length-le ns (omega arith))
  read-from k (suc n) e = ap₂ note_and (read-at k (omega arith)) (read-from (suc k) n (omega arith)) ∙ next-drop ns k no_note (omega arith)

  none-breaks : (k n : ℕ) → k + n ≡ length ns → some_breaks (records ns) k n ≡ false
  none-breaks k zero e = refl
  none-breaks k (suc n) e = ap₂ (λ a b. is_err a || b) (read-at k (omega arith)) (none-breaks (suc k) n (omega arith))

  notes-read : notes_in (records ns) ≡ ns
  unfolding notes_in
  notes-read = ap (notes_from_record (records ns) 0) count ∙ read-from 0 (length ns) (zero-add (length ns)) ∙ whole ns
    where
      whole : (l : List Note) → drop 0 l ≡ l
      whole [] = refl
      whole (x ∷ l) = refl

  even : uneven_records (records ns) ≡ false
  unfolding uneven_records
  even = let e : length (records ns) % 10 ≡ 0 = omega (arith, records-length ns) in rw (eq-eqb (length (records ns) % 10) 0 e) refl

  unbroken : broken_records (records ns) ≡ false
  unfolding broken_records
  unbroken = ap (some_breaks (records ns) 0) count ∙ none-breaks 0 (length ns) (zero-add (length ns))

  -- so 13 to 15 alone can refuse them
  answer-by : (L : ℕ) (counts room : List ℕ) (b : Bool) → is_lane_count L ≡ true → written_length L counts ≤ most_bytes → out_of_order L ns ≡ false → some_meet ns ≡ false
      → other_counts L ns counts ≡ b → written_length L counts ≤ length room → number_told (written_answer L (records ns) counts room) ≡ cond b 15 0
  unfolding written_answer other_lanes long_text
  answer-by L counts room b lane short order apart other fits =
      rw (lane, le-ltb most_bytes (written_length L counts) short, even, unbroken, notes-read, order, apart, other, le-ltb (length room) (written_length L counts) fits) (go b)
    where
      go : (b : Bool)
          → number_told (answered (refused_if b OtherCounts ∷ refused_if false ShortText ∷ []) (figures_of_written L (records ns) counts)) ≡ cond b 15 0
      go true = refl
      go false = refl

-- of a text that is short enough, where 15 holds so
module _ (makes : WriterMakes) (short : WrittenLengthShort) (pass : ReadNotesPass) (L : ℕ) (text room : List ℕ) (lane : is_lane_count L ≡ true)
    (few : length text < most_bytes) (fits : written_length L (row_counts L text) ≤ length room) where
  some : 1 ≤ L
  some = omega (arith, (lane-within L lane).0)

  unedited-by : (b : Bool) → other_counts L (notes L text) (row_counts L text) ≡ b
      → number_told (written_answer L (records (notes L text)) (row_counts L text) room) ≡ cond b 15 0
  unfolding WriterMakes WrittenLengthShort ReadNotesPass
  unedited-by b e =
      let x = pass L text some in
      answer-by (notes L text) (makes L some (lane-within L lane).1 text (omega (arith, few))) L (row_counts L text) room b lane
      (omega (arith, short L text some, few))
      (is-false _ (omega (arith, ap number_of_bool x.order)))
      (is-false _ (omega (arith, ap number_of_bool x.apart)))
      e fits

  -- 15 is left to the measures
  left-to : other_counts L (notes L text) (row_counts L text) ≡ some_shrink (written_measures L (notes L text) (row_counts L text))
  unfolding other_counts ReadNotesPass
  left-to =
      let x = pass L text some in
      ap₂ (λ a b. a || (b || some_shrink (written_measures L (notes L text) (row_counts L text))))
      (is-false _ (omega (arith, ap number_of_bool x.counted)))
      (is-false _ (omega (arith, ap number_of_bool x.within)))

pub unedited-answered : WriterMakes → WrittenLengthShort → ReadNotesPass → UneditedAnswered
unfolding UneditedAnswered
unedited-answered makes short pass L text room lane few fits =
    unedited-by makes short pass L text room lane few fits (some_shrink (written_measures L (notes L text) (row_counts L text)))
    (left-to makes short pass L text room lane few fits)

pub nothing-else_lost : WriterMakes → WrittenLengthShort → ReadNotesPass → ComesBackExactly → NothingElseLost
unfolding NothingElseLost ComesBackExactly
nothing-else_lost makes short pass exactly L text room lane few fits w =
    let x = exactly L text (some makes short pass L text room lane few fits) in (
      unedited-by makes short pass L text room lane few fits false (is-false _ (omega (arith, ap number_of_bool (x.accepted w)))),
      same-list _ _ (λ f. omega (arith, ap f (x.back w))),
    )

-- ---- Of what comes back
some-counted : (i c : ℕ) (ns : List Note) → number_of_bool (some_tailed i c ns) ≤ count_by (tailed i c) ns
some-counted i c [] = omega arith
some-counted i c (y ∷ ns) = omega (arith, count-cons (tailed i c) y ns, either (tailed i c y) (some_tailed i c ns), some-counted i c ns)
  where
    either : (a b : Bool) → number_of_bool (a || b) ≤ number_of_bool a + number_of_bool b
    either true b = omega arith
    either false b = omega arith

pub cannot-come_back : ComesBackExactly → CannotComeBack
unfolding CannotComeBack ComesBackExactly
cannot-come_back exactly L text some e =
    let w = (exactly L text some).only (same-list _ _ (λ f. omega (arith, ap f e))) in (
      λ i c b other here. omega (arith, ap number_of_bool (w.letters i c), ap number_of_bool other, ap (λ x. number_of_bool (among x written_letters)) here),
      omega (arith, ap (λ (l : List DroppedHead). length l) w.none_dropped),
      λ i c here. omega (arith, ap number_of_bool (w.tails i c here), some-counted i c (notes L text)),
    )

-- ---- Of notes that meet
pub meets-to_the_tail : MeetsAsAsked → MeetsToTheTail
unfolding MeetsToTheTail MeetsAsAsked
meets-to_the_tail asked x y j m n column tail row =
    let p : x.row ≤ last x = reach-of x.row x.kind x.tail m.tail in
    let q : y.row ≤ last y = reach-of y.row y.kind y.tail n.tail in
    let to : last x ≡ j = ap (last_of x.row) tail in
    let same : eqb x.column y.column ≡ true = eq-eqb x.column y.column column in
    let told = ap number_of_bool (asked x y m n) in (
      λ h.
          let head : takes y.row x ≡ true = takes-is y.row x.row x.tail p ∙ ap₂ (λ a b. a && b) (le-leb x.row y.row row) (le-leb y.row (last x) (omega (arith, to))) in
          is-true _ (omega (arith, told, ap number_of_bool (ap₂ (λ a b. a && ((b || takes (last y) x) || clashes y x)) same head))),
      λ h.
          let over : (i : ℕ) → j < i → takes i x ≡ false =
          λ i k. takes-is i x.row x.tail p ∙ ap (λ b. leb x.row i && b) (lt-leb i (last x) (omega (arith, to, k))) ∙ none (leb x.row i) in
          let under : (i : ℕ) → i < y.row → takes i y ≡ false = λ i k. takes-is i y.row y.tail q ∙ ap (λ b. b && leb i (last y)) (lt-leb y.row i k) in
          is-false _
          (omega (
            arith,
            told,
            ap number_of_bool
                (ap₂ (λ a b. eqb x.column y.column && (a || b))
                (ap₂ (λ a b. a || b) (over y.row h) (over (last y) (omega (arith, q, h))))
                (ap₂ (λ a b. a || b) (under x.row (omega (arith, p, to, h))) (under (last x) (omega (arith, to, h))))
                ∙ none (eqb x.column y.column)),
          )),
    )
  where
    none : (a : Bool) → (a && false) ≡ false
    none true = refl
    none false = refl

-- ---- Of the examples
pub written-examples_counted : WrittenExamplesCounted
unfolding WrittenExamplesCounted charts.table
written-examples_counted = refl
