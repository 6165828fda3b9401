-- Reading the text that is written for records and row counts gives these records and these row counts.
use mathlib.Core.Path.{◌≡◌, refl, ap, sym, ◌∙◌}
use mathlib.Core.Bool.{Bool, true, false, ◌&&◌, not, true≢false}
use mathlib.Core.List.{List, [], ◌∷◌, map, append-nil}
use Rattle.std.specs.Prelude.{Result, Ok}
use Prim.Native.Nat.{ℕ, suc, ◌+◌, ◌-◌, ◌*◌, ◌≤◌, ◌<◌}
use native.Mathlib.Nat.{mul-suc, mul-add, mul-zero}
use native.Mathlib.Omega.{arith}
use borrow.Author.Tests.{ltb-true, ltb-false, leb-false}
use lib.Dec.{leb, ltb}
use lib.ListN.{length, length-append}
use Rattle.std.proofs.lemmas.Bool.{or_parts}
use Rattle.definitions.specs.Sizes.{most_bytes}
use Rattle.definitions.specs.Lists.{joined}
use Rattle.definitions.specs.Lanes.{is_lane_count}
use Rattle.definitions.specs.Lines.{Row}
use Rattle.definitions.specs.Reduction.{minimised}
use Rattle.definitions.specs.Figures.{row_text, text_of, minimised_text}
use Rattle.definitions.specs.Notes.{notes, notes_from}
use Rattle.definitions.specs.Refusals.{refused_if, other_lanes, long_text, answered}
use Rattle.definitions.specs.WriterMakes.{Made}
use Rattle.definitions.specs.Written.{written_rows, written_from, written_measures, written_text, written_length, notes_in, uneven_records, broken_records, sum_of, within_lanes, out_of_order, some_meet, some_past, some_shrink, other_counts}
use Rattle.definitions.specs.Entries.{figures_of_written, written_answer}
use Rattle.definitions.specs.WrittenBack.{row_counts, WrittenReadsBack}
use Rattle.definitions.specs.declared.Note.{Note}
use Rattle.definitions.specs.declared.Refusal.{Refusal}
use Rattle.definitions.specs.declared.Refusal.TheVariants.{LongText, ShortText, NoRecord, BadRecord, OtherLanes, OutOfOrder, NotesMeet, OtherCounts}
use Rattle.definitions.specs.declared.WrittenFigures.{WrittenFigures}
use Rattle.definitions.proofs.Lists.{All, none, one, all_map}
use Rattle.definitions.proofs.Bools.{and_left, and_right}
use Rattle.definitions.proofs.ChartRows.{ChartRow}
use Rattle.definitions.proofs.Written.Text.{from-written, chart-rows, written-minimised, rows-length, counts-back, rows-joined}
use Rattle.definitions.proofs.Written.Notes.{last, in_order, is-sorted}
use Rattle.definitions.proofs.Written.Back.{all-back}
use Rattle.definitions.proofs.Written.Records.{holds, same-records}
use Rattle.definitions.proofs.Written.Exactly.{among-all}
use Rattle.definitions.proofs.Written.Only.{no-drops}

pub not-false : (b : Bool) → not b ≡ false → b ≡ true
not-false true h = refl
not-false false h = sym h

pub none-past : (t : ℕ) (ns : List Note) → some_past t ns ≡ false → All (λ y. last y < t) ns
none-past t [] h = none
none-past t (n ∷ ns) h =
    let p = or_parts (leb t (last n)) (some_past t ns) h in
    one (leb-false t (last n) p.0) (none-past t ns p.1)

pub all-within : (L : ℕ) (ns : List Note) → within_lanes L ns ≡ true → All (λ y. y.column < L) ns
all-within L [] h = none
all-within L (n ∷ ns) h =
    one (ltb-true n.column L (and_left (ltb n.column L) (within_lanes L ns) h)) (all-within L ns (and_right (ltb n.column L) (within_lanes L ns) h))

-- ---- The length
abbrev pub Wide : ℕ → List Row → Type 0
Wide L m = All (λ (r : Row). length r ≡ L) m

measure-length : (L : ℕ) (m : List Row) → Wide L m → length (row_text m) ≡ (L + 1) * length m
measure-length L [] none = sym (mul-zero (L + 1))
measure-length L (r ∷ m) (one x a) =
    length-append r (10 ∷ row_text m) ∙ sym (mul-suc (L + 1) (length m) ∙ omega (arith, x, measure-length L m a))

pub text-length : (L : ℕ) (m : List Row) (ms : List (List Row)) → All (Wide L) (m ∷ ms)
    → length (text_of (m ∷ ms)) ≡ (L + 1) * length (joined (m ∷ ms)) + 2 * length ms
text-length L m [] (one x none) = rw append-nil (measure-length L m x ∙ omega arith)
text-length L m (m' ∷ ms) (one x a) =
    rw (length-append m (joined (m' ∷ ms)), mul-add, length-append (row_text m) (44 ∷ 10 ∷ text_of (m' ∷ ms)))
    (omega (arith, measure-length L m x, text-length L m' ms a))

pub all-wide : {L : ℕ} {ms : List (List Row)} → All (All (ChartRow L)) ms → All (Wide L) ms
all-wide a = all_map (λ m p. all_map (λ r x. x.size) p) a

from-length : (L : ℕ) (ns : List Note) (i : ℕ) (counts : List ℕ) → length (written_from L ns i counts) ≡ length counts
from-length L ns i [] = refl
from-length L ns i (n ∷ counts) = ap suc (from-length L ns (i + n) counts)

size-is : (L : ℕ) (ns : List Note) (n : ℕ) (counts : List ℕ) → length (text_of (written_from L ns 0 (n ∷ counts))) ≡ (L + 1) * sum_of (n ∷ counts) + 2 * length counts
size-is L ns n counts =
    text-length L (written_rows L ns 0 n) (written_from L ns (0 + n) counts) (all-wide (chart-rows (from-written L ns 0 (n ∷ counts))))
    ∙ ap (λ k. (L + 1) * k + 2 * length (written_from L ns (0 + n) counts)) (ap length (rows-joined L ns 0 (n ∷ counts)) ∙ rows-length L ns 0 (sum_of (n ∷ counts)))
    ∙ ap (λ k. (L + 1) * sum_of (n ∷ counts) + 2 * k) (from-length L ns (0 + n) counts)

-- ---- Of notes
record Back (L : ℕ) (ns : List Note) (counts : List ℕ) : Type 0 where
  notes_back : notes L (written_text L ns counts) ≡ ns
  rows_back : joined (minimised L (written_text L ns counts)) ≡ written_rows L ns 0 (sum_of counts)
  counts_back : row_counts L (written_text L ns counts) ≡ counts
  text_back : minimised_text L (written_text L ns counts) ≡ written_text L ns counts
  size : length (written_text L ns counts) ≡ written_length L counts

notes-back : (L : ℕ) (ns : List Note) (counts : List ℕ) → 1 ≤ L → All Made ns → out_of_order L ns ≡ false → some_meet ns ≡ false
    → other_counts L ns counts ≡ false → Back L ns counts
unfolding out_of_order other_counts written_measures written_text written_length notes minimised_text row_counts
notes-back L ns [] w m order meets other = absurd (true≢false other)
notes-back L ns (n ∷ counts) w m order meets other =
    let ordered : (in_order ns && within_lanes L ns) ≡ true = not-false (in_order ns && within_lanes L ns) order in
    let parts = or_parts (some_past (sum_of (n ∷ counts)) ns) (some_shrink (written_from L ns 0 (n ∷ counts))) other in
    let read : minimised L (text_of (written_from L ns 0 (n ∷ counts))) ≡ written_from L ns 0 (n ∷ counts) = written-minimised L ns n counts w parts.1 in
    let rows : joined (minimised L (text_of (written_from L ns 0 (n ∷ counts)))) ≡ written_rows L ns 0 (sum_of (n ∷ counts)) =
    ap (λ (ms : List (List Row)). joined ms) read ∙ rows-joined L ns 0 (n ∷ counts) in
    record {
      notes_back =
          ap (notes_from 0) rows
          ∙ all-back L ns (is-sorted ns m (and_left (in_order ns) (within_lanes L ns) ordered) meets) m
          (all-within L ns (and_right (in_order ns) (within_lanes L ns) ordered)) (sum_of (n ∷ counts)) (none-past (sum_of (n ∷ counts)) ns parts.0);
      rows_back = rows;
      counts_back = ap (map (λ (m : List Row). length m)) read ∙ counts-back L ns 0 (n ∷ counts);
      text_back = ap text_of read;
      size = size-is L ns n counts ∙ ap (λ k. (L + 1) * sum_of (n ∷ counts) + 2 * k) (less (length counts));
    }
  where
    less : (k : ℕ) → k ≡ suc k - 1
    less k = omega arith

-- ---- Of what the call accepts
pub passes : {T : Type 0} (t : Bool) (r : Refusal) (cs : List (Result Unit Refusal)) (x y : T) → answered (refused_if t r ∷ cs) x ≡ Ok y → (t ≡ false) × (answered cs x ≡ Ok y)
passes true r cs x y e = let z : ◌≡◌ {A = ℕ} 0 1 = cc in absurd (omega arith)
passes false r cs x y e = (refl, e)

pub lane-within : (L : ℕ) → is_lane_count L ≡ true → (4 ≤ L) × (L ≤ 10)
unfolding is_lane_count
lane-within =
    among-all (λ n. (4 ≤ n) × (n ≤ 10)) (4 ∷ 5 ∷ 6 ∷ 8 ∷ 10 ∷ [])
    (one (omega arith, omega arith) (one (omega arith, omega arith) (one (omega arith, omega arith) (one (omega arith, omega arith) (one (omega arith, omega arith) none)))))

pub record Passed (L : ℕ) (s counts : List ℕ) (f : WrittenFigures) : Type 0 where
  pub lanes : (4 ≤ L) × (L ≤ 10)
  pub short : written_length L counts ≤ most_bytes
  even : uneven_records s ≡ false
  kept : broken_records s ≡ false
  order : out_of_order L (notes_in s) ≡ false
  apart : some_meet (notes_in s) ≡ false
  counted : other_counts L (notes_in s) counts ≡ false
  pub told : figures_of_written L s counts ≡ f

pub passed : (L : ℕ) (s counts out : List ℕ) (f : WrittenFigures) → written_answer L s counts out ≡ Ok f → Passed L s counts f
unfolding written_answer other_lanes long_text
passed L s counts out f e =
    let v = figures_of_written L s counts in
    let c7 = refused_if (ltb (length out) (written_length L counts)) ShortText ∷ [] in
    let c6 = refused_if (other_counts L (notes_in s) counts) OtherCounts ∷ c7 in
    let c5 = refused_if (some_meet (notes_in s)) NotesMeet ∷ c6 in
    let c4 = refused_if (out_of_order L (notes_in s)) OutOfOrder ∷ c5 in
    let c3 = refused_if (broken_records s) BadRecord ∷ c4 in
    let c2 = refused_if (uneven_records s) NoRecord ∷ c3 in
    let c1 = refused_if (ltb most_bytes (written_length L counts)) LongText ∷ c2 in
    let a = passes (not (is_lane_count L)) OtherLanes c1 v f e in
    let b = passes (ltb most_bytes (written_length L counts)) LongText c2 v f a.1 in
    let c = passes (uneven_records s) NoRecord c3 v f b.1 in
    let d = passes (broken_records s) BadRecord c4 v f c.1 in
    let g = passes (out_of_order L (notes_in s)) OutOfOrder c5 v f d.1 in
    let h = passes (some_meet (notes_in s)) NotesMeet c6 v f g.1 in
    let i = passes (other_counts L (notes_in s) counts) OtherCounts c7 v f h.1 in
    let j = passes (ltb (length out) (written_length L counts)) ShortText [] v f i.1 in
    record {
      lanes = lane-within L (not-false (is_lane_count L) a.0);
      short = ltb-false most_bytes (written_length L counts) b.0;
      even = c.0;
      kept = d.0;
      order = g.0;
      apart = h.0;
      counted = i.0;
      told = ok-is j.1;
    }
  where
    ok-is : {x y : WrittenFigures} → ◌≡◌ {A = Result WrittenFigures Refusal} (Ok x) (Ok y) → x ≡ y
    ok-is e = cc

pub written-reads-back : WrittenReadsBack
unfolding WrittenReadsBack
written-reads-back L s counts out f small e =
    let a = passed L s counts out f e in
    let b = notes-back L (notes_in s) counts (omega (arith, a.lanes.0)) (holds s a.even a.kept).made a.order a.apart a.counted in
    record {
      records_back = rw (b.notes_back, same-records s small a.even a.kept) refl;
      counts_back = rw b.counts_back refl;
      text_back = rw b.text_back refl;
      none_dropped = rw (no-drops L (written_text L (notes_in s) counts) (sum_of counts) (b.rows_back ∙ ap (λ ns. written_rows L ns 0 (sum_of counts)) (sym b.notes_back))) refl;
      size = omega (arith, b.size);
    }
