-- What is noted, with one row more and at the end of a measure, and the room that it asks for.
use mathlib.Core.Path.{◌≡◌, refl, sym, ◌∙◌, subst}
use mathlib.Core.Bool.{Bool, true, false}
use mathlib.Core.List.{List, [], ◌∷◌, ◌++◌, append_assoc, append-nil}
use Prim.Native.Nat.{ℕ, ◌+◌, ◌*◌, ◌≤◌, ◌<◌}
use native.Mathlib.Nat.{add-mul, one-mul, le_trans, mul-le-mul_right}
use native.Mathlib.Omega.{arith}
use borrow.Author.Tests.{eqb-true, eqb-false}
use lib.Dec.{eqb}
use lib.ListN.{length, get_or, length-append}
use Rattle.std.specs.List.{All}
use Rattle.definitions.specs.Sizes.{row_count_bound}
use Rattle.definitions.specs.Lists.{joined}
use Rattle.definitions.specs.Lines.{Row}
use Rattle.definitions.proofs.Lists.{none, one, all_append, all-by_index, all-from_index, joined_snoc}
use Rattle.taps.specs.Taps.{FreeAre}
use Rattle.row_notes.specs.declared.ChartNotesScratch.{ChartNotesScratch}
use Rattle.row_notes.specs.Writer.{no_head}
use Rattle.row_notes.specs.Written.{Written}
use Rattle.row_notes.proofs.Rows.{cells-within}
use Rattle.objects.specs.declared.LastScan.{LastScan}
use Rattle.objects.specs.LastHeld.{LastHeld}
use Rattle.objects.proofs.Scan.{low-more}
use Rattle.tap_walk.specs.Noted.{Noting, NotedRows, Noted, RowReady}

-- before the first row no column has an open head
pub noted-start : (L : ℕ) (l : List ℕ) (s : ChartNotesScratch) (o : LastScan) → Written [] s l → LastHeld o [] [] → Noted L (record { scratch = s; last = o }) l []
noted-start L l s o w held = record {
  written = w;
  wide = all-by_index (λ r. length r ≤ L) none;
  last = held;
  free = λ c h e. closed c h (eqb (get_or s.hold_heads c 0) no_head) refl;
}
  where
    closed : (c : ℕ) → c < 10 → (t : Bool) → eqb (get_or s.hold_heads c 0) no_head ≡ t → get_or s.hold_heads c 0 ≡ no_head
    closed c h true e = eqb-true (get_or s.hold_heads c 0) no_head e
    closed c h false e = absurd (omega (arith, (w.holds.heads c h (eqb-false (get_or s.hold_heads c 0) no_head e)).0, w.holds.count))

pub noted-row : (L : ℕ) (n : Noting) (l after : List ℕ) (row : Row) (done : List (List Row)) (cur : List Row) → length row ≤ L → NotedRows L n l done cur
    → (s : ChartNotesScratch) (o : LastScan) → ((rows : List Row) → Written rows n.scratch l → Written (rows ++ (row ∷ [])) s after)
    → LastHeld o done (cur ++ (row ∷ [])) → FreeAre o.busy no_head s.hold_heads → NotedRows L (record { scratch = s; last = o }) after done (cur ++ (row ∷ []))
noted-row L n l after row done cur w x s o f held free =
    let all : (joined done ++ cur) ++ (row ∷ []) ≡ joined done ++ (cur ++ (row ∷ [])) = append_assoc (joined done) cur (row ∷ []) in
    record {
      written = subst (λ rs. Written rs s after) all (f (joined done ++ cur) x.written);
      wide = subst (All (λ r. length r ≤ L)) all (all-by_index (λ r. length r ≤ L) (all_append (all-from_index (λ r. length r ≤ L) (joined done ++ cur) x.wide) (one w none)));
      last = held;
      free = free;
    }

-- the measure ends
pub noted-measure : (L : ℕ) (n : Noting) (l : List ℕ) (done : List (List Row)) (cur : List Row) → NotedRows L n l done cur
    → (o : LastScan) → LastHeld o (done ++ (cur ∷ [])) [] → o.busy ≡ n.last.busy → Noted L (record { scratch = n.scratch; last = o }) l (done ++ (cur ∷ []))
noted-measure L n l done cur x o held same =
    let all : joined done ++ cur ≡ joined (done ++ (cur ∷ [])) ++ [] = sym (append-nil (joined (done ++ (cur ∷ []))) ∙ joined_snoc done cur) in
    record {
      written = subst (λ rs. Written rs n.scratch l) all x.written;
      wide = subst (All (λ r. length r ≤ L)) all x.wide;
      last = held;
      free = rw same x.free;
    }

module _ (L : ℕ) (n : Noting) (l : List ℕ) (done : List (List Row)) (cur : List Row) (x : NotedRows L n l done cur) where
  pub row_number : n.scratch.row_index ≡ length (joined done) + length cur
  row_number = x.written.row ∙ length-append (joined done) cur

  -- there is room for the notes of one row more
  pub row-ready : (row : Row) → length row ≡ L → L ≤ 10 → n.scratch.row_index < row_count_bound
      → (n.scratch.row_index + 1) * L * 10 ≤ length l → RowReady n row l
  row-ready row w narrow few room =
      record {
        room =
            record {
              rows = joined done ++ cur;
              written = x.written;
              few = omega (arith, x.written.row);
              narrow = omega (arith, w);
              room = omega (arith, cells, more, room, w);
            };
        rows = omega (arith, x.last.rows, row_number);
        low = low-more (length (joined done) + length cur) 4294967294 n.last.depths (omega (arith, row_number)) x.last.low;
        free = x.free;
      }
    where
      cells : n.scratch.count ≤ n.scratch.row_index * L
      cells = subst (λ k. n.scratch.count ≤ k * L) (sym x.written.row) (le_trans x.written.cells (cells-within L (joined done ++ cur) (all-from_index (λ r. length r ≤ L) (joined done ++ cur) x.wide)))

      more : (n.scratch.row_index + 1) * L ≡ n.scratch.row_index * L + L
      more = rw (add-mul, one-mul)

-- room for one of them
pub one-room : (n m k L b : ℕ) → n + 1 ≤ m + k → (m + k) * L * 10 ≤ b → (n + 1) * L * 10 ≤ b
one-room n m k L b h r = le_trans (mul-le-mul_right 10 (mul-le-mul_right L h)) r
