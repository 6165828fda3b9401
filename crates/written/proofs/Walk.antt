-- One walk over the records: 8, and where they keep the limits 13, 14 and the rows of 15.
use mathlib.Core.Path.{◌≡◌, ap, ◌∙◌}
use mathlib.Core.Bool.{true, false, not, ◌&&◌}
use mathlib.Core.List.{List, []}
use Rattle.std.specs.Prelude.{Ok, is_err}
use Prim.Native.Nat.{ℕ, ◌+◌, ◌≤◌, ◌<◌}
use lib.Dec.{leb, ltb}
use lib.ListN.{length, get_or}
use Rattle.std.proofs.Common.{set}
use Rattle.definitions.specs.Written.{last_of, notes_in, uneven_records, broken_records, within_lanes, out_of_order}
use Rattle.definitions.specs.declared.Note.{Note}
use Rattle.definitions.proofs.Bools.{and_left}
use Rattle.definitions.proofs.Written.Notes.{in_order}
use Rattle.definitions.proofs.Written.Reads.{not-false}
use Rattle.note_records.specs.Chunks.{ten_bytes, note_of_bytes}
use Rattle.note_records.specs.Limits.{Limited, from_place}
use Rattle.note_records.proofs.Kept.{KeptFrom, kept-first, kept-next, kept-all, chunk-note, past-chunks}
use Rattle.note_records.proofs.Order.{OrderFrom, order-start, order-next, order-end}
use Rattle.written.specs.Found.{FirstWalked, Found}
use Rattle.written.specs.declared.checks.Walked.{Walked}
use Rattle.written.proofs.Apart.{ApartOr, apart_or-start, apart_or-next, apart_or-end}
use Rattle.written.proofs.Counts.{PastFrom, past-start, past-next, past-end}

pub record WalkFrom (L t : ℕ) (s : List ℕ) (i : ℕ) (w : Walked) : Type 0 where
  pub kept : KeptFrom s i
  order : Limited s → OrderFrom L (notes_in s) i w.order.row w.order.column w.order.kept
  apart : Limited s → in_order (notes_in s) ≡ true → ApartOr (notes_in s) w.free i w.apart
  past : Limited s → PastFrom t (notes_in s) i w.within

pub walk-start : (L t : ℕ) (s : List ℕ) (w : Walked) → FirstWalked w → WalkFrom L t s 0 w
walk-start L t s w f =
    record {
      kept = kept-first s;
      order = λ k. rw (f.row, f.column, f.kept) (order-start L (notes_in s));
      apart = λ k e. rw (f.free, f.apart) (apart_or-start (notes_in s));
      past = λ k. rw f.within (past-start t (notes_in s));
    }

-- what the walk takes of a note
pub record Taken (L t : ℕ) (w : Walked) (n : Note) (w' : Walked) : Type 0 where
  pub row : w'.order.row ≡ n.row
  pub column : w'.order.column ≡ n.column + 1
  pub kept : w'.order.kept ≡ (w.order.kept && (from_place w.order.row w.order.column n && ltb n.column L))
  pub free : w'.free ≡ set w.free n.column (last_of n.row n.tail + 1)
  pub apart : w'.apart ≡ (w.apart && leb (get_or w.free n.column 0) n.row)
  pub within : w'.within ≡ (w.within && ltb (last_of n.row n.tail) t)

rises : (L : ℕ) (ns : List Note) → out_of_order L ns ≡ false → in_order ns ≡ true
unfolding out_of_order
rises L ns f = and_left (in_order ns) (within_lanes L ns) (not-false (in_order ns && within_lanes L ns) f)

module _ {L t : ℕ} {s : List ℕ} {i : ℕ} {w : Walked} (x : WalkFrom L t s i w) (whole : uneven_records s ≡ false) {chunks : List (List ℕ)} (e : chunks ≡ ten_bytes s) where
  pub walk-next : i < length chunks → (n : Note) → note_of_bytes (get_or chunks i []) ≡ Ok n → (w' : Walked) → Taken L t w n w' → WalkFrom L t s (i + 1) w'
  walk-next h n f w' k =
      record {
        kept = kept-next x.kept whole e h (ap is_err f);
        order = λ l. rw (k.row, k.kept) (order-next (x.order l) n (chunk-note l e i h n f) w'.order.column k.column);
        apart = λ l o. rw (k.free, k.apart) (apart_or-next (x.apart l o) o n (chunk-note l e i h n f));
        past = λ l. rw k.within (past-next (x.past l) n (chunk-note l e i h n f));
      }

  pub walk-kept : length chunks ≤ i → broken_records s ≡ false
  walk-kept h = kept-all x.kept whole e h

  pub walk-end : length chunks ≤ i → Found L t s w
  walk-end h =
      let k : Limited s = record { whole = whole; limits = walk-kept h } in
      let last : length (notes_in s) ≤ i = past-chunks k e h in
      let order : out_of_order L (notes_in s) ≡ not w.order.kept = order-end (x.order k) last in
      record {
        in_order = order;
        apart = λ f. apart_or-end (x.apart k (rises L (notes_in s) (order ∙ ap not f))) last;
        within = past-end (x.past k) last;
      }
