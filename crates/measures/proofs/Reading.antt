-- The measures of a chart as they are read: the next is the first of those that were left; and what a pass over them goes by.
use mathlib.Core.Path.{◌≡◌, refl, ap, sym, ◌∙◌, subst}
use mathlib.Core.Bool.{true, false, not}
use mathlib.Core.List.{List, [], ◌∷◌, ◌++◌, map, append_assoc, append-nil}
use Prim.Native.Nat.{ℕ, ◌+◌, ◌*◌, ◌/◌, ◌≤◌, ◌<◌}
use native.Mathlib.Nat.{mul-le-mul_right}
use native.Mathlib.Omega.{arith}
use lib.ListN.{length, take, length-append}
use lib.Seq.{length-take-le, take_at}
use Rattle.definitions.specs.Lists.{joined}
use Rattle.definitions.specs.Lanes.{most_rows_in}
use Rattle.definitions.specs.Lines.{Row}
use Rattle.definitions.specs.Reduction.{reduce, minimised}
use Rattle.definitions.specs.Entries.{row_count, measure_count}
use Rattle.definitions.proofs.Lists.{joined_snoc, all-by_index, all-from_index}
use Rattle.definitions.proofs.Shorter.{reduce-short}
use Rattle.definitions.proofs.Counts.{measures-few}
use Rattle.definitions.proofs.ChartRows.{minimised-bytes, minimised-short, minimised-rows-few}
use Rattle.reader.specs.Marks.{chart_marks, wide}
use Rattle.reader.proofs.Marks.{chart-measures, chart-bytes, chart-wide}
use Rattle.reduction.specs.Rows.{placed, rows_from, ReducesRows}
use Rattle.reduction.proofs.Placed.{placed-front}
use Rattle.reduction.proofs.Multiples.{reduce-all}
use Rattle.reduction.proofs.Forms.{form-rows, form-holds, form-after}
use Rattle.reduction.proofs.RowsAt.{rows-length}
use Rattle.measures.specs.declared.RowForm.{RowForm}
use Rattle.measures.specs.declared.Measure.{Measure}
use Rattle.measures.specs.declared.Measures.{Measures}
use Rattle.measures.specs.Forms.{row_width, measure_end, written, all_written}
use Rattle.measures.specs.Lines.{first_rows, after_first, ends_first, Fits}
use Rattle.measures.specs.Reading.{left, Read, Reading, rows_in, MeasureRead}
use Rattle.measures.proofs.Writing.{end-short, snoc, blocks, reduced-first, rows-wide, rows-room, fits-after}

-- Before the first line.
pub read-start : {f : RowForm} {L : ℕ} {chart_text text : List ℕ} {m : Measures} → m.form ≡ f → m.lanes.count ≡ L → m.lines ≡ chart_marks L chart_text
    → m.out ≡ 0 → m.number ≡ 0 → m.over ≡ false → Read f L chart_text m text []
unfolding minimised
read-start {L = L} {chart_text = chart_text} form lanes lines out number over = record {
  form = form;
  lanes = lanes;
  minimised_are = ap (map reduce) (chart-measures L chart_text) ∙ rw (over, lines) refl;
  number = number;
  fits = rw (lines, out) (record { wide_rows = all-by_index (wide L) (chart-wide L chart_text); room_for = omega (arith, chart-bytes L chart_text) });
  text_is = rw (out, over) refl;
}

rows-part : (done more : List (List Row)) → length (joined done) ≤ length (joined (done ++ more))
rows-part [] more = omega arith
rows-part (m ∷ done) more = omega (arith, length-append m (joined done), length-append m (joined (done ++ more)), rows-part done more)

module _ {f : RowForm} {L : ℕ} {chart_text : List ℕ} {m : Measures} {text : List ℕ} {done : List (List Row)} (r : Read f L chart_text m text done) where
  own : Read m.form m.lanes.count chart_text m text done
  own = subst (λ g. Read g m.lanes.count chart_text m text done) (sym r.form) (subst (λ n. Read f n chart_text m text done) (sym r.lanes) r)

  pub read-on : length chart_text + 1 ≤ length text → Reading m text
  read-on room = record { chart_text = chart_text; done = done; read = own; room = room }

  -- no more rows than the chart has
  pub read-rows : length (joined done) ≤ row_count L chart_text
  read-rows = omega (arith, ap (λ ms. length (joined ms)) r.minimised_are, rows-part done (left m))

  pub read-fifth : 4 ≤ L → 5 * length (joined done) ≤ length chart_text + 1
  read-fifth w =
      let five : 5 ≤ L + 1 = omega arith in
      omega (arith, mul-le-mul_right (row_count L chart_text) five, read-rows, minimised-bytes L chart_text (omega arith), minimised-short L chart_text)

  pub read-most : 4 ≤ L → length (joined done) ≤ most_rows_in L (length chart_text)
  read-most w = omega (arith, read-rows, minimised-rows-few L chart_text (omega (arith, w)))

  -- nor more measures, and bytes
  read-measures : length done + length (left m) ≤ (length chart_text + 1) / 2 + 1
  read-measures = omega (arith, ap length r.minimised_are, length-append done (left m), measures-few L chart_text)

  pub read-short : m.out ≤ length chart_text + 1
  read-short = omega (arith, r.fits.room_for)

  -- the next one
  module _ {x : Measure} {m' : Measures} {text' : List ℕ} (n : MeasureRead m text x m' text') where
    pub next-number : x.number ≡ length done
    next-number = n.number ∙ r.number

    pub next-place : x.number + 1 ≤ (length chart_text + 1) / 2 + 1
    next-place = omega (arith, next-number, read-measures, ap length n.left_is)

    pub next-rows : length (joined (done ++ (rows_in f L x text' ∷ []))) ≡ length (joined done) + x.rows
    next-rows = rw (joined_snoc, length-append, rows-length) (omega arith)

    pub next-within : x.start + x.rows * row_width f L ≤ length text'
    next-within = rw (← r.form, ← r.lanes) n.in_text

  -- all of them
  module _ (over : m.over ≡ true) where
    pub all-minimised : minimised L chart_text ≡ done
    all-minimised = r.minimised_are ∙ rw (over, append-nil) refl

    pub all-text : take m.out text ≡ all_written f (minimised L chart_text)
    all-text = r.text_is ∙ rw over (ap (all_written f) (sym all-minimised))

    pub all-number : m.number ≡ measure_count L chart_text
    all-number = r.number ∙ ap length (sym all-minimised)

    pub all-rows : length (joined done) ≡ row_count L chart_text
    all-rows = ap (λ ms. length (joined ms)) (sym all-minimised)

-- one less is left
pub left-less : {m : Measures} {text : List ℕ} {x : Measure} {m' : Measures} {text' : List ℕ} → MeasureRead m text x m' text' → length (left m') < length (left m)
left-less n = omega (arith, ap length n.left_is)

-- ---- The measure that the lines begin with is the next one.

module _ (m : Measures) (text : List ℕ) (x : Reading m text) where
  pub read-few : m.number ≤ (length text) / 2 + 1
  read-few = omega (arith, x.read.number, read-measures x.read, x.room)

  pub lines-fit : Fits m.lanes.count m.lines (length text) m.out
  lines-fit = record { wide_rows = x.read.fits.wide_rows; room_for = omega (arith, x.read.fits.room_for, x.room) }

  -- its rows are written, and minimised there
  module _ {k : ℕ} (text₀ : List ℕ) (count : k ≡ length (first_rows m.lines)) (same : length text₀ ≡ length text) where
    pub rows-fit : m.out + k * row_width m.form m.lanes.count ≤ length text₀
    rows-fit = omega (arith, rows-room lines-fit m.form k (omega (arith, count)), same)

    pub minimised-there : {left : ℕ} {text₁ : List ℕ} → take (m.out + k * row_width m.form m.lanes.count) text₀ ≡ take m.out text ++ written m.form (first_rows m.lines)
        → ReducesRows (written m.form) m.lanes.count k m.out text₀ left text₁
        → (left ≡ length (reduce (first_rows m.lines))) × (take (m.out + left * row_width m.form m.lanes.count) text₁ ≡ take m.out text ++ written m.form (reduce (first_rows m.lines)))
    minimised-there holds red =
        let front : length (take m.out text) ≡ m.out = length-take-le m.out text (omega (arith, rows-fit, same)) in
        let f = blocks m.form m.lanes.count in
        let d = red (first_rows m.lines) (form-holds f (take m.out text) (first_rows m.lines) text₀ front (sym count) (rows-wide lines-fit) holds) in
        (d.count, form-after f (take m.out text) (first_rows m.lines) text₀ front (sym count) (rows-wide lines-fit) holds (omega (arith, rows-fit)) d)

  -- n of them are left
  module _ (n : ℕ) (count : n ≡ length (reduce (first_rows m.lines))) where
    abbrev end : ℕ
    end = m.out + n * row_width m.form m.lanes.count

    short : n ≤ length (first_rows m.lines)
    short = omega (arith, count, reduce-short (first_rows m.lines))

    pub end-room : end + length (measure_end m.form (ends_first m.lines)) ≤ length text
    end-room = omega (arith, rows-room lines-fit m.form n short, end-short m.form (ends_first m.lines))

    module _ (more : m.over ≡ false) (text₁ text₂ : List ℕ) (same : length text₁ ≡ length text)
        (here : take (m.out + n * row_width m.form m.lanes.count) text₁ ≡ take m.out text ++ written m.form (reduce (first_rows m.lines)))
        (is : text₂ ≡ placed (m.out + n * row_width m.form m.lanes.count) (measure_end m.form (ends_first m.lines)) text₁) (same₂ : length text₂ ≡ length text₁) where
      low : end ≤ length text₁
      low = omega (arith, end-room, same)

      there : take end text₂ ≡ take m.out text ++ written m.form (reduce (first_rows m.lines))
      there = rw is (take_at (take end text₁) _ end (length-take-le end text₁ low) ∙ here)

      rows-there : rows_from (row_width m.form m.lanes.count) m.lanes.count n m.out text₂ ≡ reduce (first_rows m.lines)
      rows-there =
          let wide = all-by_index (λ r. length r ≡ m.lanes.count) (reduce-all (all-from_index (λ r. length r ≡ m.lanes.count) (first_rows m.lines) (rows-wide lines-fit))) in
          let front : length (take m.out text) ≡ m.out = length-take-le m.out text (omega (arith, end-room)) in
          form-rows (blocks m.form m.lanes.count) (form-holds (blocks m.form m.lanes.count) (take m.out text) (reduce (first_rows m.lines)) text₂ front (sym count) wide there)

      module _ (m' : Measures) (form : m'.form ≡ m.form) (lanes : m'.lanes.count ≡ m.lanes.count) (lines : m'.lines ≡ after_first m.lines)
          (out : m'.out ≡ m.out + n * row_width m.form m.lanes.count + length (measure_end m.form (ends_first m.lines)))
          (number : m'.number ≡ m.number + 1) (over : m'.over ≡ not (ends_first m.lines)) where
        first : left m ≡ reduce (first_rows m.lines) ∷ left m'
        first = rw (more, over, lines) (reduced-first m.lines)

        read-more : (chart_text : List ℕ) (done : List (List Row)) → Read m.form m.lanes.count chart_text m text done
            → Read m.form m.lanes.count chart_text m' text₂ (done ++ (reduce (first_rows m.lines) ∷ []))
        read-more chart_text done r = record {
          form = form;
          lanes = lanes;
          minimised_are = r.minimised_are ∙ ap (λ ms. done ++ ms) first ∙ sym (append_assoc done (reduce (first_rows m.lines) ∷ []) (left m'));
          number = rw length-append (omega (arith, number, r.number));
          fits = rw lines (fits-after r.fits (omega (arith, out, rows-room r.fits m.form n short, end-short m.form (ends_first m.lines))));
          text_is =
              rw (out, is, over, snoc)
              (placed-front end (measure_end m.form (ends_first m.lines)) text₁ low
              ∙ ap (λ l. l ++ measure_end m.form (ends_first m.lines)) (here ∙ ap (λ l. l ++ written m.form (reduce (first_rows m.lines))) (r.text_is ∙ rw more refl)));
        }

        pub measure-read : MeasureRead m text (record { start = m.out; rows = n; number = m.number }) m' text₂
        measure-read = record {
          in_text = omega (arith, end-room, same, same₂);
          left_is = first ∙ ap (λ rs. rs ∷ left m') (sym rows-there);
          number = refl;
          read = λ f L chart_text done r.
              subst (λ g. Read g L chart_text m' text₂ (done ++ (rows_from (row_width g L) L n m.out text₂ ∷ []))) r.form
              (subst (λ w. Read m.form w chart_text m' text₂ (done ++ (rows_from (row_width m.form w) w n m.out text₂ ∷ []))) r.lanes
              (subst (λ rs. Read m.form m.lanes.count chart_text m' text₂ (done ++ (rs ∷ []))) (sym rows-there) (read-more chart_text done (own r))));
        }
