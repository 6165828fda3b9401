-- One look at the records: 8, and where they keep the limits 13 and the played notes of each column.
use mathlib.Core.Path.{◌≡◌, refl, ap, sym, ◌∙◌}
use mathlib.Core.Bool.{Bool, true, false, not, ◌&&◌}
use mathlib.Core.List.{List, []}
use Rattle.std.specs.Prelude.{Ok, is_err}
use Prim.Native.Nat.{ℕ, ◌+◌, ◌≤◌, ◌<◌}
use native.Mathlib.Omega.{arith}
use lib.Dec.{ltb}
use lib.ListN.{length, get_or}
use Rattle.std.proofs.Common.{set}
use Rattle.std.proofs.Math.Bool.{and-true}
use Rattle.definitions.specs.Records.{note_of_record}
use Rattle.definitions.specs.Lists.{number_of_bool}
use Rattle.definitions.specs.Written.{notes_in, uneven_records, broken_records, within_lanes, out_of_order}
use Rattle.definitions.specs.Presses.{notes_rise, is_played, played_in, of_columns}
use Rattle.definitions.specs.declared.Note.{Note}
use Rattle.note_records.specs.Chunks.{ten_bytes, note_of_bytes}
use Rattle.note_records.specs.Limits.{Limited, from_place}
use Rattle.note_records.specs.declared.checks.Order.{Order}
use Rattle.note_records.proofs.Chunks.{chunks-count}
use Rattle.note_records.proofs.Kept.{KeptFrom, kept-first, kept-next, kept-all, chunk-note, past-chunks, in-records, chunk-record}
use Rattle.note_records.proofs.Order.{OrderFrom, order-start, order-next, order-end}
use Rattle.definitions.proofs.TraceCounted.{notes-fit}
use Rattle.presses.proofs.Counts.{none_yet, Played, played-start, note-fits, note-narrow, played-next, played-over}

pub record LookFrom (s : List ℕ) (i : ℕ) (o : Order) (played : List ℕ) : Type 0 where
  pub kept : KeptFrom s i
  order : Limited s → OrderFrom 10 (notes_in s) i o.row o.column o.kept
  pub counted : Played s played i

pub look-start : (s : List ℕ) (o : Order) → o.row ≡ 0 → o.column ≡ 0 → o.kept ≡ true → LookFrom s 0 o (none_yet)
look-start s o r c k =
    record { kept = kept-first s; order = λ l. rw (r, c, k) (order-start 10 (notes_in s)); counted = played-start s }

-- 13 asks nothing of lanes where there are ten
no-lanes : (ns : List Note) → within_lanes 10 ns ≡ true → out_of_order 10 ns ≡ not (notes_rise ns)
unfolding out_of_order
no-lanes ns w = rw w (ap not (and-true (notes_rise ns)))

module _ {s : List ℕ} {i : ℕ} {o : Order} {played : List ℕ} (x : LookFrom s i o played) (whole : uneven_records s ≡ false) {chunks : List (List ℕ)} (e : chunks ≡ ten_bytes s) where
  module _ (h : i < length chunks) (n : Note) (f : note_of_bytes (get_or chunks i []) ≡ Ok n) where
    record-is : note_of_record s i ≡ Ok n
    record-is = sym (chunk-record s whole e i h) ∙ f

    pub look-narrow : n.column < 10
    look-narrow = note-narrow s i n record-is

    pub look-fits : get_or played n.column 0 + number_of_bool (is_played n.kind) ≤ length s
    look-fits = note-fits s played i x.counted (in-records s whole e i h) n record-is

    pub look-next : (o' : Order) → o'.row ≡ n.row → o'.column ≡ n.column + 1 → o'.kept ≡ (o.kept && (from_place o.row o.column n && ltb n.column 10))
        → (more : ℕ) → more ≡ number_of_bool (is_played n.kind) → LookFrom s (i + 1) o' (set played n.column (get_or played n.column 0 + more))
    look-next o' r c k more g =
        record {
          kept = kept-next x.kept whole e h (ap is_err f);
          order = λ l. rw (r, k) (order-next (x.order l) n (chunk-note l e i h n f) o'.column c);
          counted = rw g (played-next s played i x.counted (in-records s whole e i h) n record-is);
        }

  pub look-kept : length chunks ≤ i → broken_records s ≡ false
  look-kept h = kept-all x.kept whole e h

  pub look-rising : length chunks ≤ i → o.kept ≡ notes_rise (notes_in s)
  look-rising h =
      let k : Limited s = record { whole = whole; limits = look-kept h } in
      same o.kept (notes_rise (notes_in s)) (sym (order-end (x.order k) (past-chunks k e h)) ∙ no-lanes (notes_in s) (notes-fit s))
    where
      same : (a b : Bool) → not a ≡ not b → a ≡ b
      same true true q = refl
      same false false q = refl
      same true false q = sym q
      same false true q = sym q

  pub look-played : length chunks ≤ i → played ≡ of_columns (played_in (notes_in s)) 0 10
  look-played h = played-over s played i x.counted (omega (arith, h, ap length e, chunks-count s))
