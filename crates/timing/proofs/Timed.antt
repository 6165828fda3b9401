-- The measures that were read: their rows stand in the text, and their beats and heads are told.
use mathlib.Core.Path.{◌≡◌, refl, ap, sym, ◌∙◌}
use mathlib.Core.Bool.{Bool, false, ◌||◌, or_assoc}
use mathlib.Core.List.{List, [], ◌∷◌, ◌++◌}
use Prim.Native.Nat.{ℕ, ◌+◌, ◌-◌, ◌*◌, ◌≤◌, ◌<◌}
use native.Mathlib.Nat.{add-sub_cancel_left}
use native.Mathlib.Omega.{arith}
use lib.Ieee.{Float}
use lib.ListN.{length, take, drop}
use lib.Seq.{length-take-le}
use Rattle.definitions.specs.Sizes.{most_bytes, measures_bound, row_count_bound}
use Rattle.definitions.specs.Lists.{joined, padded}
use Rattle.definitions.specs.Lanes.{most_rows_in}
use Rattle.definitions.specs.Lines.{Row}
use Rattle.definitions.specs.Beats.{f32, row_beats, beats_from, measure_beats, beats as beats_of}
use Rattle.definitions.specs.TimingRows.{has_some_head, timing_rows, timing_heads}
use Rattle.definitions.specs.Entries.{row_count, figures_of_timing}
use Rattle.definitions.specs.declared.TimingFigures.{TimingFigures}
use Rattle.definitions.proofs.Lists.{joined_snoc}
use Rattle.beats.proofs.Beats.{beats-appended}
use Rattle.slices.specs.Zeroed.{zeroed}
use Rattle.slices.proofs.Zeroed.{zeroed-answer}
use Rattle.reduction.specs.Rows.{rows_from}
use Rattle.reduction.proofs.Blocks.{joined-append, blocks-joined}
use Rattle.reduction.proofs.RowsAt.{rows-length}
use Rattle.measures.specs.declared.RowForm.TheVariants.{BackToBack}
use Rattle.measures.specs.declared.Measure.{Measure}
use Rattle.measures.specs.declared.Measures.{Measures}
use Rattle.measures.specs.Reading.{Read, MeasureRead, AllRead}
use Rattle.measures.proofs.Reading.{next-number, next-place, next-rows, next-within, read-fifth, read-most, read-short, all-minimised, all-text, all-rows}

head-append : (s t : List ℕ) → has_some_head (s ++ t) ≡ (has_some_head s || has_some_head t)
head-append [] t = refl
head-append (b ∷ s) t = rw (head-append s t, or_assoc)

-- one measure more: the heads of its rows
head-measure : (done : List (List Row)) (m : List Row) → has_some_head (joined (joined (done ++ (m ∷ [])))) ≡ (has_some_head (joined (joined done)) || has_some_head (joined m))
head-measure done m = rw (joined_snoc done m, joined-append (joined done) m) (head-append (joined (joined done)) (joined m))

pub record Timed (L : ℕ) (chart_text : List ℕ) (m : Measures) (text : List ℕ) (beats : List Float) (rows : ℕ) (heads : Bool) : Type 0 where
  pub done : List (List Row)
  pub read : Read BackToBack L chart_text m text done
  pub rows_are : rows ≡ length (joined done)
  pub beats_are : take rows beats ≡ joined (beats_from 0 done)
  pub heads_are : heads ≡ has_some_head (joined (joined done))

pub timed-start : {L : ℕ} {chart_text : List ℕ} {m : Measures} {text : List ℕ} {beats : List Float} → Read BackToBack L chart_text m text [] → Timed L chart_text m text beats 0 false
timed-start r = record { done = []; read = r; rows_are = refl; beats_are = refl; heads_are = refl }

module _ {L : ℕ} {chart_text : List ℕ} {m : Measures} {text : List ℕ} {beats : List Float} {rows : ℕ} {heads : Bool} (k : Timed L chart_text m text beats rows heads) where
  module _ {x : Measure} {m' : Measures} {text' : List ℕ} (n : MeasureRead m text x m' text') where
    width : L + 0 ≡ L
    width = omega arith

    pub timed-few : length chart_text ≤ most_bytes → 4 ≤ L → rows + x.rows < row_count_bound
    timed-few short wide = omega (arith, k.rows_are, next-rows k.read n, read-fifth (n.read _ _ _ _ k.read) wide, short)

    pub timed-most : 4 ≤ L → rows + x.rows ≤ most_rows_in L (length chart_text)
    timed-most wide = omega (arith, k.rows_are, next-rows k.read n, read-most (n.read _ _ _ _ k.read) wide)

    pub timed-number : length chart_text ≤ most_bytes → x.number ≤ measures_bound
    timed-number short = omega (arith, next-place k.read n, short)

    pub timed-within : x.start + x.rows * L ≤ length text'
    timed-within = rw width at (next-within k.read n)

    timed-read : Read BackToBack L chart_text m' text' (k.done ++ (rows_from L L x.rows x.start text' ∷ []))
    timed-read = rw width at (n.read BackToBack L chart_text k.done k.read)

    -- the beats and heads of one measure more
    pub timed-next : rows ≤ length beats → (beats₁ : List Float) (found : Bool) → beats₁ ≡ (take rows beats ++ row_beats x.number x.rows 0 x.rows) ++ drop (rows + x.rows) beats
        → found ≡ has_some_head (take (x.start + x.rows * L - x.start) (drop x.start text')) → Timed L chart_text m' text' beats₁ (rows + x.rows) (heads || found)
    timed-next room beats₁ found eb ef =
        let last = rows_from L L x.rows x.start text' in
        let there : take (x.start + x.rows * L - x.start) (drop x.start text') ≡ joined last =
        ap (λ k. take k (drop x.start text')) (add-sub_cancel_left x.start (x.rows * L)) ∙ sym (blocks-joined L x.rows (drop x.start text')) in
        record {
          done = k.done ++ (last ∷ []);
          read = timed-read;
          rows_are = omega (arith, k.rows_are, rw width at (next-rows k.read n));
          beats_are = ap (take (rows + x.rows)) eb ∙ beats-appended beats rows x.number x.rows k.done last room k.beats_are (next-number k.read n) (rw rows-length);
          heads_are = rw (k.heads_are, ef, there) (sym (head-measure k.done last));
        }

  pub all-most : 4 ≤ L → rows ≤ most_rows_in L (length chart_text)
  all-most wide = omega (arith, k.rows_are, read-most k.read wide)

  -- All were read.
  module _ {m' : Measures} {text' : List ℕ} (n : AllRead m text m' text') where
    all-rows-are : take m'.out text' ≡ timing_rows L chart_text
    unfolding timing_rows
    all-rows-are = all-text (n.read _ _ _ _ k.read) n.over

    rows-count : rows ≡ row_count L chart_text
    rows-count = k.rows_are ∙ all-rows (n.read _ _ _ _ k.read) n.over

    pub all-figures : length chart_text + 1 ≤ length text' → record { bytes = m'.out; rows = rows; heads = heads } ≡ figures_of_timing L chart_text
    unfolding figures_of_timing timing_heads timing_rows
    all-figures room =
        made (sym (length-take-le m'.out text' (omega (arith, room, read-short (n.read _ _ _ _ k.read)))) ∙ ap length all-rows-are) rows-count
        (k.heads_are ∙ ap (λ ms. has_some_head (joined (joined ms))) (sym (all-minimised (n.read _ _ _ _ k.read) n.over)))
      where
        made : {a b c d : ℕ} {s t : Bool} → a ≡ b → c ≡ d → s ≡ t → ◌≡◌ {A = TimingFigures} (record { bytes = a; rows = c; heads = s }) (record { bytes = b; rows = d; heads = t })
        made p q r = cc

    pub all-written : (size : ℕ) → length text' ≡ size → length chart_text + 1 ≤ size → zeroed 0 m'.out text' ≡ padded 0 size (timing_rows L chart_text)
    all-written size same room = zeroed-answer 0 text' m'.out size (λ L. timing_rows L chart_text) refl same (omega (arith, same, room, read-short (n.read _ _ _ _ k.read))) all-rows-are

    pub all-beats : 4 ≤ L → (size : ℕ) → length beats ≡ size → most_rows_in L (length chart_text) ≤ size → zeroed (f32 0) rows beats ≡ padded (f32 0) size (beats_of L chart_text)
    unfolding measure_beats beats_of
    all-beats wide size same room =
        zeroed-answer (f32 0) beats rows size (λ L. beats_of L chart_text) refl same (omega (arith, same, room, all-most wide))
        (k.beats_are ∙ ap (λ ms. joined (beats_from 0 ms)) (sym (all-minimised (n.read _ _ _ _ k.read) n.over)))
