-- The measures that were read are counted and noted, and their beats written.
use mathlib.Core.Path.{◌≡◌, ap, sym, ◌∙◌, subst}
use mathlib.Core.List.{List, [], ◌∷◌, ◌++◌, append-nil}
use Prim.Native.Nat.{ℕ, ◌+◌, ◌*◌, ◌≤◌, ◌<◌}
use native.Mathlib.Nat.{le_trans, le_of_eq, mul-le-mul_right, mul_comm, mul_assoc}
use native.Mathlib.Omega.{arith}
use lib.Ieee.{Float}
use lib.ListN.{length, take, drop, length-append}
use Rattle.definitions.specs.Sizes.{most_bytes, measures_bound, row_count_bound}
use Rattle.definitions.specs.Lists.{joined}
use Rattle.definitions.specs.Lanes.{most_rows_in}
use Rattle.definitions.specs.Lines.{Row}
use Rattle.definitions.specs.Reduction.{minimised}
use Rattle.definitions.specs.Beats.{row_beats, beats_from, measure_beats, beats as beats_of}
use Rattle.beats.proofs.Beats.{beats-appended}
use Rattle.reduction.specs.Rows.{rows_of}
use Rattle.reduction.proofs.RowsAt.{rows-length}
use Rattle.measures.specs.declared.RowForm.TheVariants.{Lines}
use Rattle.measures.specs.declared.Measure.{Measure}
use Rattle.measures.specs.declared.Measures.{Measures}
use Rattle.measures.specs.Reading.{MeasureRead, AllRead}
use Rattle.measures.proofs.Reading.{next-number, next-place, all-minimised}
use Rattle.row_walk.specs.Columns.{Ten}
use Rattle.measure_tally.specs.Counted.{CountsAll}
use Rattle.tap_walk.specs.Noted.{Noting, Noted}
use Rattle.tap_walk.specs.Walked.{Walking}
use Rattle.measure_walk.specs.declared.Walk.{Walk}
use Rattle.measure_walk.specs.Views.{counting, noting, NotesAll}
use Rattle.kept_pass.proofs.Keeping.{Keeps, keeps-few, keeps-most}
use Rattle.chart_pass.specs.ChartPass.{NothingWalked}

-- the notes and beats of the measures `done` are written
pub record Charted (L : ℕ) (w : Walk) (beats : List Float) (slots : List ℕ) (done : List (List Row)) : Type 0 where
  pub noted : Noted L (noting w) slots done
  pub ten : Ten w.run.columns
  pub beats_are : take w.run.row beats ≡ joined (beats_from 0 done)

pub charted-start : {L : ℕ} {w : Walk} {beats : List Float} {slots : List ℕ} → NothingWalked w → Charted L w beats slots []
charted-start {L} {w} {beats} {slots} n = record { noted = n.noted L slots; ten = n.ten; beats_are = ap (λ k. take k beats) n.row }

module _ {L : ℕ} {chart_text : List ℕ} {m : Measures} {w : Walk} {text densities : List ℕ} {beats : List Float} {slots : List ℕ} {done : List (List Row)}
    (k : Keeps L chart_text m (counting w) text densities done) (h : Charted L w beats slots done) where
  rows-before : w.run.row ≡ length (joined done)
  rows-before = k.counted.rows ∙ ap length (append-nil (joined done))

  module _ {x : Measure} {m' : Measures} {text' : List ℕ} (n : MeasureRead m text x m' text') (wide : 4 ≤ L) (short : length chart_text ≤ most_bytes) where
    pub charted-few : w.run.row + x.rows < row_count_bound
    charted-few = omega (arith, keeps-few k n wide, short)

    pub charted-number : x.number ≤ measures_bound
    charted-number = omega (arith, next-place k.read n, short)

    -- there is room for the walk over the next measure
    pub charted-walking : 10 * L * most_rows_in L (length chart_text) ≤ length slots → Walking L (counting w) (noting w) slots (rows_of L x.rows text' x.start) 0
    charted-walking room =
        let many : length (rows_of L x.rows text' x.start) ≡ x.rows = rw rows-length in
        let most : length (joined done) + length (rows_of L x.rows text' x.start) ≤ most_rows_in L (length chart_text) = omega (arith, rows-before, many, keeps-most k n wide) in
        record {
          done = done;
          counted = k.counted;
          noted = h.noted;
          few = omega (arith, rows-before, many, charted-few);
          room =
              le_trans (mul-le-mul_right 10 (mul-le-mul_right L most))
              (le_trans (le_of_eq (mul_comm (most_rows_in L (length chart_text) * L) 10 ∙ ap (λ n. 10 * n) (mul_comm (most_rows_in L (length chart_text)) L) ∙ sym (mul_assoc 10 L (most_rows_in L (length chart_text))))) room);
          midx = omega (arith, next-number k.read n, charted-number);
        }

    -- the next measure is walked over
    pub charted-next : (w₁ w₂ : Walk) (beats₁ : List Float) (slots₁ : List ℕ) → w.run.row ≤ length beats
        → beats₁ ≡ (take w.run.row beats ++ row_beats x.number x.rows 0 x.rows) ++ drop (w.run.row + x.rows) beats
        → CountsAll L (rows_of L x.rows text' x.start) (counting w) (counting w₁) → NotesAll L (rows_of L x.rows text' x.start) (noting w) slots (noting w₁) slots₁ → Ten w₁.run.columns
        → noting w₂ ≡ noting w₁ → w₂.run.columns ≡ w₁.run.columns → Charted L w₂ beats₁ slots₁ (done ++ (rows_of L x.rows text' x.start ∷ []))
    charted-next w₁ w₂ beats₁ slots₁ fits eb counts notes ten same columns =
        let rows = rows_of L x.rows text' x.start in
        let many : length rows ≡ x.rows = rw rows-length in
        let after : w₂.run.row ≡ w₁.run.row = ap (λ (n : Noting). n.scratch.row_index) same in
        let size : w.run.row + x.rows ≡ w₂.run.row = omega (arith, rows-before, (counts done k.counted).rows, many, length-append (joined done) rows, after) in
        record {
          noted = subst (λ n. Noted L n slots₁ (done ++ (rows ∷ []))) (sym same) (notes done h.noted);
          ten = subst Ten (sym columns) ten;
          beats_are =
              ap (λ n. take n beats₁) (sym size) ∙ ap (take (w.run.row + x.rows)) eb
              ∙ beats-appended beats w.run.row x.number x.rows done rows fits h.beats_are (next-number k.read n) (sym many);
        }

  -- All are.
  module _ {m' : Measures} {text' : List ℕ} (n : AllRead m text m' text') where
    all : minimised L chart_text ≡ done
    all = all-minimised (n.read Lines L chart_text done k.read) n.over

    pub all-noted : Noted L (noting w) slots (minimised L chart_text)
    all-noted = subst (Noted L (noting w) slots) (sym all) h.noted

    pub all-beats : take w.run.row beats ≡ beats_of L chart_text
    unfolding beats_of measure_beats
    all-beats = h.beats_are ∙ ap (λ ms. joined (beats_from 0 ms)) (sym all)
