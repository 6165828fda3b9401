-- Measures written out in a text, and their reduction in place: one law for the in-text form and for rows back to back.
use mathlib.Core.Path.{◌≡◌, refl, ap, sym, ◌∙◌}
use mathlib.Core.List.{List, [], ◌∷◌, ◌++◌, map, append_assoc}
use Prim.Native.Nat.{ℕ, ◌+◌, ◌*◌, ◌^◌, ◌%◌, ◌/◌, ◌≤◌}
use native.Mathlib.Nat.{add-zero, zero-mul, suc-mul, add_comm}
use native.Mathlib.Omega.{arith}
use lib.ListN.{length, take, drop, length-append, take-append-drop}
use lib.Seq.{take_all, take-take, take-add, take_at, drop_at}
use Rattle.std.specs.List.{All}
use Rattle.definitions.specs.Lists.{joined}
use Rattle.definitions.specs.Lines.{Row}
use Rattle.definitions.specs.Reduction.{at_multiples, stride, reduce}
use Rattle.definitions.specs.Figures.{row_text}
use Rattle.definitions.proofs.Lists.{All as Each, none, one, all_map, all-by_index, all-from_index}
use Rattle.reduction.specs.Rows.{rows_at, placed, compacted, RowsStand, Reduced}
use Rattle.reduction.proofs.Powers.{power_pos}
use Rattle.reduction.proofs.Placed.{placed-front}
use Rattle.reduction.proofs.Multiples.{multiples-map, reduce-all}
use Rattle.reduction.proofs.Blocks.{rows-of-blocks, multiples-length}

-- no rows: nothing changes
pub none-reduced : (w L n start : ℕ) (text : List ℕ) → n ≡ 0 → 0 ≡ length (reduce (rows_at w L n (drop start text)))
unfolding reduce
none-reduced w L n start text e = ap (λ (k : ℕ). length (reduce (rows_at w L k (drop start text)))) (sym e)

pub none_stays : (w L n start : ℕ) (text : List ℕ) → n ≡ 0 → text ≡ compacted w n (stride (rows_at w L n (drop start text))) start text
unfolding compacted
none_stays w L n start text e =
    sym (rw (add-zero) (take-append-drop start text))
    ∙ ap (λ (k : ℕ). compacted w k (stride (rows_at w L k (drop start text))) start text) (sym e)

-- search and compaction together: e is the exponent found, r and after what the compaction gives
pub reduced-by : (w L n start e r : ℕ) (text after : List ℕ) → 2 ^ e ≡ stride (rows_at w L n (drop start text)) → n % 2 ^ e ≡ 0
    → r ≡ n / 2 ^ e → after ≡ compacted w n (2 ^ e) start text
    → (r ≡ length (reduce (rows_at w L n (drop start text)))) × (after ≡ compacted w n (stride (rows_at w L n (drop start text))) start text)
unfolding reduce
reduced-by w L n start e r text after s d q c = (
  q
      ∙ sym (multiples-length w L n (2 ^ e) (drop start text) (power_pos e) d)
      ∙ ap (λ (m : ℕ). length (at_multiples m 0 (rows_at w L n (drop start text)))) s,
  c ∙ ap (λ (m : ℕ). compacted w n m start text) s,
)

-- A text that begins with two parts.
pub begins : (a x t : List ℕ) → take (length a + length x) t ≡ a ++ x → (take (length a) t ≡ a) × (take (length x) (drop (length a) t) ≡ x)
begins a x t e = (front, sym (drop_at a (take (length x) (drop (length a) t)) (length a) refl) ∙ ap (drop (length a)) both ∙ drop_at a x (length a) refl)
  where
    front : take (length a) t ≡ a
    front =
        sym (take-take (length a) (length a + length x) t (omega arith)) ∙ ap (take (length a)) e ∙ take_at a x (length a) refl

    both : a ++ take (length x) (drop (length a) t) ≡ a ++ x
    both = ap (λ (l : List ℕ). l ++ take (length x) (drop (length a) t)) (sym front) ∙ sym (take-add (length a) (length x) t) ∙ e

-- A form that writes each row out in a block of w bytes, of which the first L are the row.
pub record Form (form : List Row → List ℕ) (w L : ℕ) : Type 0 where
  pub block : Row → Row
  pub is : (rs : List Row) → form rs ≡ joined (map block rs)
  pub low : L ≤ w
  pub size : (r : Row) → length r ≡ L → length (block r) ≡ w
  pub row : (r : Row) → length r ≡ L → take L (block r) ≡ r

abbrev line : Row → Row
line r = r ++ (10 ∷ [])

-- in the text each row has byte 10 after it
unfoldable pub in-text : (L : ℕ) → Form row_text (L + 1) L
in-text L =
    record {
      block = line;
      is = lines;
      low = omega arith;
      size = λ r h. length-append r (10 ∷ []) ∙ ap (λ (k : ℕ). k + 1) h;
      row = λ r h. take_at r (10 ∷ []) L h;
    }
  where
    lines : (rs : List Row) → row_text rs ≡ joined (map line rs)
    lines [] = refl
    lines (r ∷ rs) = rw (append_assoc, lines rs)

-- back to back a row stands as it is
unfoldable pub back-to-back : (L : ℕ) → Form joined L L
back-to-back L =
    record {
      block = λ r. r;
      is = same;
      low = omega arith;
      size = λ r h. h;
      row = λ r h. take_all L r (omega arith);
    }
  where
    same : (rs : List Row) → joined rs ≡ joined (map (λ r. r) rs)
    same [] = refl
    same (r ∷ rs) = ap (λ (b : List ℕ). r ++ b) (same rs)

module _ (f : Row → Row) (w L : ℕ) where
  blocks-are : {rs : List Row} (t : List ℕ) → Each (λ r. length (f r) ≡ w) rs → take (length (joined (map f rs))) t ≡ joined (map f rs)
      → rows_at w w (length rs) t ≡ map f rs
  blocks-are t none e = refl
  blocks-are t (one {a = r} {l = rs} h q) e =
      let parts : (take (length (f r)) t ≡ f r) × (take (length (joined (map f rs))) (drop (length (f r)) t) ≡ joined (map f rs)) =
      begins (f r) (joined (map f rs)) t (ap (λ (k : ℕ). take k t) (sym (length-append (f r) (joined (map f rs)))) ∙ e) in
      let front : take w t ≡ f r = ap (λ (k : ℕ). take k t) (sym h) ∙ parts.0 in
      let rest : take (length (joined (map f rs))) (drop w t) ≡ joined (map f rs) =
      ap (λ (k : ℕ). take (length (joined (map f rs))) (drop k t)) (sym h) ∙ parts.1 in
      rw (front, blocks-are (drop w t) q rest)

  rows_are : {rs : List Row} → Each (λ r. take L (f r) ≡ r) rs → map (take L) (map f rs) ≡ rs
  rows_are none = refl
  rows_are (one {a = r} h q) = rw (h, rows_are q)

  written-length : {rs : List Row} → Each (λ r. length (f r) ≡ w) rs → length (joined (map f rs)) ≡ length rs * w
  written-length none = rw (zero-mul)
  written-length (one {a = r} {l = rs} h q) = rw (length-append, h, written-length q, suc-mul) (add_comm w (length rs * w))

module _ {form : List Row → List ℕ} {w L : ℕ} (fm : Form form w L) where
  pub form-length : (rs : List Row) → All (λ r. length r ≡ L) rs → length (form rs) ≡ length rs * w
  form-length rs h = ap length (fm.is rs) ∙ written-length fm.block w L (all_map fm.size (all-from_index (λ r. length r ≡ L) rs h))

  form-blocks : {n start : ℕ} {rs : List Row} {text : List ℕ} → RowsStand form L n start rs text → rows_at w w n (drop start text) ≡ map fm.block rs
  form-blocks {n} {start} {rs} {text} h =
      ap (λ (k : ℕ). rows_at w w k (drop start text)) (sym h.count)
      ∙ blocks-are fm.block w L (drop start text) (all_map fm.size (all-from_index (λ r. length r ≡ L) rs h.wide))
      (ap (λ (b : List ℕ). take (length b) (drop start text)) (sym (fm.is rs)) ∙ h.bytes ∙ fm.is rs)

  -- the rows that are read where rows were written
  pub form-rows : {n start : ℕ} {rs : List Row} {text : List ℕ} → RowsStand form L n start rs text → rows_at w L n (drop start text) ≡ rs
  form-rows {n} {start} {rs} {text} h =
      rows-of-blocks w L n (drop start text) fm.low ∙ ap (map (take L)) (form-blocks h) ∙ rows_are fm.block w L (all_map fm.row (all-from_index (λ r. length r ≡ L) rs h.wide))

  -- what search and compaction make of them
  pub form-reduced : {n start r : ℕ} {rs : List Row} {text after : List ℕ} → RowsStand form L n start rs text
      → (r ≡ length (reduce (rows_at w L n (drop start text)))) × (after ≡ compacted w n (stride (rows_at w L n (drop start text))) start text)
      → Reduced form start rs text r after
  unfolding compacted reduce
  form-reduced {n} {start} {r} {rs} {text} {after} h c =
      record {
        count = c.0 ∙ ap (λ (l : List Row). length (reduce l)) (form-rows h);
        bytes =
            c.1
            ∙ ap (λ (l : List Row). placed start (joined (at_multiples (stride l) 0 (rows_at w w n (drop start text)))) text) (form-rows h)
            ∙ ap (λ (l : List Row). placed start (joined (at_multiples (stride rs) 0 l)) text) (form-blocks h)
            ∙ ap (λ (l : List Row). placed start (joined l) text) (multiples-map fm.block (stride rs) 0 rs)
            ∙ ap (λ (b : List ℕ). placed start b text) (sym (fm.is (reduce rs)));
      }

  -- For a caller whose text holds `before` and then n rows: they are there to be reduced,
  module _ (before : List ℕ) (rs : List Row) (text : List ℕ) {n start : ℕ} (front : length before ≡ start) (count : length rs ≡ n)
      (wide : All (λ r. length r ≡ L) rs) (holds : take (start + n * w) text ≡ before ++ form rs) where
    parts : (take (length before) text ≡ before) × (take (length (form rs)) (drop (length before) text) ≡ form rs)
    parts = begins before (form rs) text (ap (λ (k : ℕ). take k text) size ∙ holds)
      where
        size : length before + length (form rs) ≡ start + n * w
        size = rw (front, form-length rs wide, count)

    pub form-holds : RowsStand form L n start rs text
    form-holds = record { count = count; wide = wide; bytes = ap (λ (k : ℕ). take (length (form rs)) (drop k text)) (sym front) ∙ parts.1 }

    -- and afterwards the minimised rows follow `before`.
    pub form-after : {r : ℕ} {after : List ℕ} → start ≤ length text → Reduced form start rs text r after
        → take (start + r * w) after ≡ before ++ form (reduce rs)
    form-after {r} {after} low h =
        ap (λ (k : ℕ). take (start + k) after) (sym size)
        ∙ ap (take (start + length (form (reduce rs)))) h.bytes
        ∙ placed-front start (form (reduce rs)) text low
        ∙ ap (λ (l : List ℕ). l ++ form (reduce rs)) (ap (λ (k : ℕ). take k text) (sym front) ∙ parts.0)
      where
        size : length (form (reduce rs)) ≡ r * w
        size = form-length (reduce rs) (all-by_index (λ r. length r ≡ L) (reduce-all (all-from_index (λ r. length r ≡ L) rs wide))) ∙ ap (λ (k : ℕ). k * w) (sym h.count)
