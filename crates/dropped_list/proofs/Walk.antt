-- The walk over minimised text from its end.
use mathlib.Core.Path.{◌≡◌, refl, ap, sym, ◌∙◌, subst}
use mathlib.Core.Bool.{Bool, true, false, ◌||◌, true≢false, false≢true}
use mathlib.Core.List.{List, [], ◌∷◌, ◌++◌, append_assoc, append-nil}
use Rattle.std.specs.Prelude.{Option, Some, None}
use Prim.Native.Nat.{ℕ, zero, suc, ◌+◌, ◌-◌, ◌*◌, ◌≤◌, ◌<◌}
use native.Mathlib.Nat.{mul-suc}
use native.Mathlib.Omega.{arith}
use borrow.Author.Tests.{eq-eqb, ne_eqb}
use lib.Dec.{eqb}
use lib.ListN.{length, take, drop, get_or, replicate, length-append, get_or-append}
use lib.Seq.{take_at, drop_at, drop-length, get_or-append-add}
use Rattle.definitions.specs.Lists.{joined}
use Rattle.definitions.specs.Lines.{Row}
use Rattle.definitions.specs.Reduction.{minimised}
use Rattle.definitions.specs.Figures.{minimised_text}
use Rattle.definitions.specs.Dropped.{dropped_heads, dropped_records}
use Rattle.definitions.proofs.Lists.{All, none, one}
use Rattle.definitions.proofs.ChartRows.{ChartRow, minimised-rows}
use Rattle.definitions.specs.declared.DropCause.TheVariants.{ChartEnd}
use Rattle.definitions.specs.declared.Fate.TheVariants.{ClosedAt, DroppedBy}
use Rattle.dropped_list.specs.Listed.{Listed}
use Rattle.dropped_list.specs.TextOf.{TextOf, SomeText}
use Rattle.dropped_list.specs.declared.Listing.{Listing}
use Rattle.dropped_list.proofs.Lines.{line_of, lines_text, lines_rows, LineOf, with_measures, measures-text, measures-rows, measures-each, newline-last, clean-at}

-- Of a chart's minimised text the lines `ls` are left, from the last up, and the rows below them are listed.
pub record Reading (L : ℕ) (chart text : List ℕ) (at row : ℕ) (s : Listing) (list : List ℕ) : Type 0 where
  pub ls : List (Option Row)
  pub each : All (LineOf L) ls
  pub rest : List ℕ
  pub bytes : text ≡ lines_text ls ++ rest
  pub size : at ≡ length (lines_text ls)
  pub below : List Row
  pub rows_are : joined (minimised L chart) ≡ lines_rows ls ++ below
  pub row_is : row ≡ length (lines_rows ls)
  pub listed : Listed L row below s list

-- what the loop holds, of whatever chart has that text
pub record Walked (L : ℕ) (text : List ℕ) (rows : ℕ) (list₀ : List ℕ) (at row : ℕ) (s : Listing) (list : List ℕ) : Type 0 where
  pub within : at ≤ length text
  pub room : L * row ≤ s.first
  pub list_room : s.first * 10 ≤ length list
  pub same_length : length list ≡ length list₀
  pub reading : (chart : List ℕ) → TextOf L chart text rows → Reading L chart text at row s list

-- the test for a `,` line
abbrev comma_at : List ℕ → ℕ → Bool
comma_at text at = eqb at 2 || eqb (get_or text (at - 3) 0) 10

module _ (L : ℕ) (four : 4 ≤ L) where
  pub reading-start : (chart text : List ℕ) (rows : ℕ) → TextOf L chart text rows → (s : Listing) (list : List ℕ) → Listed L rows [] s list
      → Reading L chart text (length text) rows s list
  unfolding minimised_text
  reading-start chart text rows x s list y =
      let ls : List (Option Row) = with_measures [] (minimised L chart) in
      let t : lines_text ls ≡ text = measures-text [] (minimised L chart) ∙ sym x.text_is in
      let r : lines_rows ls ≡ joined (minimised L chart) = measures-rows [] (minimised L chart) in
      record {
        ls = ls;
        each = measures-each none (minimised-rows L chart (omega arith));
        rest = [];
        bytes = sym (append-nil (lines_text ls) ∙ t);
        size = ap length (sym t);
        below = [];
        rows_are = sym (append-nil (lines_rows ls) ∙ r);
        row_is = x.rows_are ∙ ap length (sym r);
        listed = y;
      }

  -- a line's bytes, its newline too
  line-size : (l : Option Row) → LineOf L l → (ls : List (Option Row)) → (at : ℕ) → at ≡ length (lines_text (l ∷ ls)) → at ≡ length (lines_text ls) + (length (line_of l) + 1)
  line-size l x ls at e = e ∙ length-append (lines_text ls) (line_of l ++ (10 ∷ [])) ∙ ap (λ n. length (lines_text ls) + n) (length-append (line_of l) (10 ∷ []))

  -- after a `,` line the text ends or a newline stands
  comma-told : (ls : List (Option Row)) (rest text : List ℕ) → All (LineOf L) ls → text ≡ lines_text (None ∷ ls) ++ rest → (at : ℕ) → at ≡ length (lines_text (None ∷ ls)) → comma_at text at ≡ true
  comma-told [] rest text a e at s = rw (eq-eqb at 2 s) refl
  comma-told (l ∷ ls) rest text (one x a) e at s =
      let n : at ≡ length (lines_text (l ∷ ls)) + 2 = line-size None tt (l ∷ ls) at s in
      let m : length (lines_text (l ∷ ls)) ≡ length (lines_text ls) + (length (line_of l) + 1) = line-size l x ls (length (lines_text (l ∷ ls))) refl in
      let k : at - 3 ≡ length (lines_text ls) + length (line_of l) = omega (arith, n, m) in
      let inside : at - 3 < length (lines_text (l ∷ ls)) = omega (arith, n, m) in
      let parts : text ≡ lines_text (l ∷ ls) ++ ((44 ∷ 10 ∷ []) ++ rest) = e ∙ append_assoc (lines_text (l ∷ ls)) (44 ∷ 10 ∷ []) rest in
      let byte : get_or text (at - 3) 0 ≡ 10 =
      ap (λ t. get_or t (at - 3) 0) parts
      ∙ get_or-append (lines_text (l ∷ ls)) ((44 ∷ 10 ∷ []) ++ rest) 0 (at - 3) inside
      ∙ ap (λ i. get_or (lines_text (l ∷ ls)) i 0) k
      ∙ newline-last l ls in
      rw (ne_eqb at 2 (λ q. omega (arith, n, m)), eq-eqb (get_or text (at - 3) 0) 10 byte) refl

  -- a row's last byte but one is none
  row-told : (r : Row) → ChartRow L r → (ls : List (Option Row)) (rest text : List ℕ) → text ≡ lines_text (Some r ∷ ls) ++ rest → (at : ℕ) → at ≡ length (lines_text (Some r ∷ ls)) → comma_at text at ≡ false
  row-told r x ls rest text e at s =
      let n : at ≡ length (lines_text ls) + (length r + 1) = line-size (Some r) x ls at s in
      let k : at - 3 ≡ length (lines_text ls) + (length r - 2) = omega (arith, n, x.size) in
      let inside : length r - 2 < length r = omega (arith, x.size) in
      let parts : text ≡ lines_text ls ++ (r ++ ((10 ∷ []) ++ rest)) =
      e ∙ append_assoc (lines_text ls) (r ++ (10 ∷ [])) rest ∙ ap (λ t. lines_text ls ++ t) (append_assoc r (10 ∷ []) rest) in
      let byte : get_or text (at - 3) 0 ≡ get_or r (length r - 2) 0 =
      ap (λ t. get_or t (at - 3) 0) parts
      ∙ ap (λ i. get_or (lines_text ls ++ (r ++ ((10 ∷ []) ++ rest))) i 0) k
      ∙ get_or-append-add (lines_text ls) (r ++ ((10 ∷ []) ++ rest)) (length r - 2) 0
      ∙ get_or-append r ((10 ∷ []) ++ rest) 0 (length r - 2) inside in
      rw (ne_eqb at 2 (λ q. omega (arith, n, x.size)), byte) (clean-at r (length r - 2) x.clean)

  module _ (chart text : List ℕ) (at row : ℕ) (s : Listing) (list : List ℕ) where
    -- a line takes two bytes at least
    pub two-left : Reading L chart text at row s list → 0 < at → 2 ≤ at
    two-left x h = go x.ls x.each x.size
      where
        go : (ls : List (Option Row)) → All (LineOf L) ls → at ≡ length (lines_text ls) → 2 ≤ at
        go [] a e = absurd (omega (arith, e))
        go (None ∷ ls) a e = omega (arith, line-size None tt ls at e)
        go (Some r ∷ ls) (one x a) e = omega (arith, line-size (Some r) x ls at e, x.size)

    -- a `,` line goes
    pub comma-read : Reading L chart text at row s list → 0 < at → comma_at text at ≡ true → Reading L chart text (at - 2) row s list
    comma-read x h t = go x.ls x.each x.bytes x.size x.rows_are x.row_is
      where
        go : (ls : List (Option Row)) → All (LineOf L) ls → text ≡ lines_text ls ++ x.rest → at ≡ length (lines_text ls) → joined (minimised L chart) ≡ lines_rows ls ++ x.below
            → row ≡ length (lines_rows ls) → Reading L chart text (at - 2) row s list
        go [] a e n q p = absurd (omega (arith, n))
        go (None ∷ ls) (one y a) e n q p =
            record {
              ls = ls;
              each = a;
              rest = (44 ∷ 10 ∷ []) ++ x.rest;
              bytes = e ∙ append_assoc (lines_text ls) (44 ∷ 10 ∷ []) x.rest;
              size = omega (arith, line-size None tt ls at n);
              below = x.below;
              rows_are = q ∙ ap (λ l. l ++ x.below) (append-nil (lines_rows ls));
              row_is = p ∙ ap length (append-nil (lines_rows ls));
              listed = x.listed;
            }
        go (Some r ∷ ls) (one y a) e n q p = absurd (true≢false (sym t ∙ row-told r y ls x.rest text e at n))

    -- the bytes of the line that ends there, without its newline
    abbrev part : Row
    part = take (at - 1 - (at - (L + 1))) (drop (at - (L + 1)) text)

    -- a row stands there
    pub record RowRead : Type 0 where
      pub wide : length part ≡ L
      pub some : 1 ≤ row
      pub fits : L + 1 ≤ at
      pub next : (s' : Listing) (list' : List ℕ) → ((rows : List Row) → Listed (length part) (suc (row - 1)) rows s list → Listed (length part) (row - 1) (part ∷ rows) s' list')
          → Reading L chart text (at - (L + 1)) (row - 1) s' list'

    pub row-read : Reading L chart text at row s list → 0 < at → comma_at text at ≡ false → RowRead
    row-read x h t = go x.ls x.each x.bytes x.size x.rows_are x.row_is
      where
        go : (ls : List (Option Row)) → All (LineOf L) ls → text ≡ lines_text ls ++ x.rest → at ≡ length (lines_text ls) → joined (minimised L chart) ≡ lines_rows ls ++ x.below
            → row ≡ length (lines_rows ls) → RowRead
        go [] a e n q p = absurd (omega (arith, n))
        go (None ∷ ls) (one y a) e n q p = absurd (false≢true (sym t ∙ comma-told ls x.rest text a e at n))
        go (Some r ∷ ls) (one y a) e n q p =
            let size : at ≡ length (lines_text ls) + (length r + 1) = line-size (Some r) y ls at n in
            let wide : length r ≡ L = y.size in
            let start : length (lines_text ls) ≡ at - (L + 1) = omega (arith, size, wide) in
            let parts : text ≡ lines_text ls ++ (r ++ ((10 ∷ []) ++ x.rest)) =
            e ∙ append_assoc (lines_text ls) (r ++ (10 ∷ [])) x.rest ∙ ap (λ t. lines_text ls ++ t) (append_assoc r (10 ∷ []) x.rest) in
            let count : row ≡ length (lines_rows ls) + 1 = p ∙ length-append (lines_rows ls) (r ∷ []) in
            let is : part ≡ r =
            ap (λ l. take (at - 1 - (at - (L + 1))) (drop (at - (L + 1)) l)) parts
            ∙ ap (take (at - 1 - (at - (L + 1)))) (drop_at (lines_text ls) (r ++ ((10 ∷ []) ++ x.rest)) (at - (L + 1)) start)
            ∙ take_at r ((10 ∷ []) ++ x.rest) (at - 1 - (at - (L + 1))) (omega (arith, size, wide)) in
            let long : length part ≡ L = ap length is ∙ wide in
            record {
              wide = long;
              some = omega (arith, count);
              fits = omega (arith, size, wide);
              next = λ s' list' f.
                  let same : row ≡ suc (row - 1) = omega (arith, count) in
                  record {
                    ls = ls;
                    each = a;
                    rest = r ++ ((10 ∷ []) ++ x.rest);
                    bytes = parts;
                    size = sym start;
                    below = r ∷ x.below;
                    rows_are = q ∙ append_assoc (lines_rows ls) (r ∷ []) x.below;
                    row_is = omega (arith, count);
                    listed =
                        subst (λ q. Listed L (row - 1) (q ∷ x.below) s' list') is
                        (subst (λ n. Listed n (row - 1) (part ∷ x.below) s' list') long
                        (f x.below (subst (λ n. Listed n (suc (row - 1)) x.below s list) (sym long) (subst (λ k. Listed L k x.below s list) same x.listed))));
                  };
            }

  -- no line is left
  pub reading-end : (chart text : List ℕ) (row : ℕ) (s : Listing) (list : List ℕ) → Reading L chart text 0 row s list
      → drop (s.first * 10) list ≡ dropped_records (dropped_heads L chart)
  unfolding dropped_heads
  reading-end chart text row s list x = go x.ls x.each x.size x.rows_are x.row_is
    where
      go : (ls : List (Option Row)) → All (LineOf L) ls → 0 ≡ length (lines_text ls) → joined (minimised L chart) ≡ lines_rows ls ++ x.below
          → row ≡ length (lines_rows ls) → drop (s.first * 10) list ≡ dropped_records (dropped_heads L chart)
      go [] a n q p = (subst (λ k. Listed L k x.below s list) p x.listed).heads ∙ rw q refl
      go (l ∷ ls) (one y a) n q p = absurd (omega (arith, line-size l y ls 0 n))

-- ---- The loop

-- before the first line every head above would be dropped by the chart's end, and no record stands at the slice's end
pub walk-start : (L : ℕ) → (4 ≤ L) × (L ≤ 10) → (text : List ℕ) (rows : ℕ) (list : List ℕ) → length list ≡ L * rows * 10
    → Walked L text rows list (length text) rows (record { fates = replicate 10 (DroppedBy ChartEnd); first = L * rows }) list
unfolding dropped_records
walk-start L w text rows list e =
    record {
      within = omega arith;
      room = omega arith;
      list_room = omega (arith, e);
      same_length = refl;
      reading = λ chart x. reading-start L w.0 chart text rows x _ _ (record {
        fates = λ c h. same 10 c (omega (arith, w.1));
        heads = ap (λ n. drop n list) (sym e) ∙ drop-length list;
      });
    }
  where
    same : (n c : ℕ) → c < n → get_or (replicate n (DroppedBy ChartEnd)) c (ClosedAt 0) ≡ DroppedBy ChartEnd
    same zero c h = absurd (omega arith)
    same (suc n) zero h = refl
    same (suc n) (suc c) h = same n c (omega arith)

module _ {L : ℕ} (w : (4 ≤ L) × (L ≤ 10)) {text : List ℕ} {rows : ℕ} {list₀ : List ℕ} {at row : ℕ} {s : Listing} {list : List ℕ} (x : Walked L text rows list₀ at row s list)
    (t : SomeText L text rows) (h : 0 < at) where
  pub some-line : 2 ≤ at
  some-line = two-left L w.0 _ _ _ _ _ _ (x.reading t.chart t.held) h

  pub walk-comma : comma_at text at ≡ true → Walked L text rows list₀ (at - 2) row s list
  walk-comma e =
      record {
        within = omega (arith, x.within);
        room = x.room;
        list_room = x.list_room;
        same_length = x.same_length;
        reading = λ chart y. comma-read L w.0 _ _ _ _ _ _ (x.reading chart y) h e;
      }

  module _ (e : comma_at text at ≡ false) where
    pub some-row : RowRead L w.0 t.chart text at row s list
    some-row = row-read L w.0 _ _ _ _ _ _ (x.reading t.chart t.held) h e

    row-more : L * row ≡ L * (row - 1) + L
    row-more = let n : row ≡ suc (row - 1) = omega (arith, some-row.some) in ap (λ k. L * k) n ∙ mul-suc L (row - 1) ∙ omega arith

    -- its cells have room for their records
    pub row-room : length (part L w.0 t.chart text at row s list) ≤ s.first
    row-room = omega (arith, some-row.wide, x.room, row-more)

    pub walk-row : (s' : Listing) (list' : List ℕ) → s'.first ≤ s.first → s.first ≤ s'.first + length (part L w.0 t.chart text at row s list) → length list' ≡ length list
        → ((rs : List Row) → Listed (length (part L w.0 t.chart text at row s list)) (suc (row - 1)) rs s list
        → Listed (length (part L w.0 t.chart text at row s list)) (row - 1) (part L w.0 t.chart text at row s list ∷ rs) s' list')
        → Walked L text rows list₀ (at - (L + 1)) (row - 1) s' list'
    walk-row s' list' p q m f =
        record {
          within = omega (arith, x.within);
          room = omega (arith, q, some-row.wide, x.room, row-more);
          list_room = omega (arith, p, m, x.list_room);
          same_length = m ∙ x.same_length;
          reading = λ chart y. (row-read L w.0 _ _ _ _ _ _ (x.reading chart y) h e).next s' list' f;
        }
