-- The measures that were read are counted, and their densities stored.
use mathlib.Core.Path.{◌≡◌, refl, ap, sym, ◌∙◌, subst}
use mathlib.Core.List.{List, [], ◌∷◌, ◌++◌, map, map-append, append-nil}
use Prim.Native.Nat.{ℕ, ◌+◌, ◌*◌, ◌≤◌, ◌<◌}
use native.Mathlib.Omega.{arith}
use native.Mathlib.Numerals.{add-one}
use lib.ListN.{length, take, set, length-append}
use lib.Seq.{take-suc-set}
use Rattle.definitions.specs.Lists.{joined}
use Rattle.definitions.specs.Lanes.{most_rows_in}
use Rattle.definitions.specs.Lines.{Row}
use Rattle.definitions.specs.Reduction.{minimised}
use Rattle.definitions.specs.Figures.{density, minimised_text, densities as densities_of}
use Rattle.definitions.specs.Tally.{tally}
use Rattle.phantoms.specs.Phantoms.{Counts}
use Rattle.measure_tally.specs.declared.Counting.{Counting}
use Rattle.measure_tally.specs.Counted.{Counted, CountsAll}
use Rattle.reduction.specs.Rows.{rows_of}
use Rattle.reduction.specs.States.{EndsMeasure}
use Rattle.measures.specs.declared.RowForm.TheVariants.{Lines}
use Rattle.measures.specs.declared.Measure.{Measure}
use Rattle.measures.specs.declared.Measures.{Measures}
use Rattle.measures.specs.Reading.{Read, MeasureRead, AllRead}
use Rattle.measures.proofs.Reading.{next-number, next-rows, read-fifth, read-most, read-short, all-minimised, all-text, all-number}
use Rattle.kept_pass.specs.Kept.{KeptAll}

-- the measures `done` were read and are counted
pub record Keeps (L : ℕ) (chart_text : List ℕ) (m : Measures) (c : Counting) (text densities : List ℕ) (done : List (List Row)) : Type 0 where
  pub read : Read Lines L chart_text m text done
  pub counted : Counted L c done []
  pub stored : take (length done) densities ≡ map density done

pub keeps-start : {L : ℕ} {chart_text : List ℕ} {m : Measures} {c : Counting} {text densities : List ℕ} → Read Lines L chart_text m text [] → Counted L c [] [] → Keeps L chart_text m c text densities []
keeps-start r c = record { read = r; counted = c; stored = refl }

module _ {L : ℕ} {chart_text : List ℕ} {m : Measures} {c : Counting} {text densities : List ℕ} {done : List (List Row)} (k : Keeps L chart_text m c text densities done) where
  module _ {x : Measure} {m' : Measures} {text' : List ℕ} (n : MeasureRead m text x m' text') where
    one-more : length (joined (done ++ (rows_of L x.rows text' x.start ∷ []))) ≡ c.rows + x.rows
    one-more = omega (arith, next-rows k.read n, k.counted.rows, length-append (joined done) [])

    pub keeps-few : 4 ≤ L → 5 * (c.rows + x.rows) ≤ length chart_text + 1
    keeps-few w = omega (arith, one-more, read-fifth (n.read Lines L chart_text done k.read) w)

    pub keeps-most : 4 ≤ L → c.rows + x.rows ≤ most_rows_in L (length chart_text)
    keeps-most w = omega (arith, one-more, read-most (n.read Lines L chart_text done k.read) w)

    -- the next measure is counted, and its density stored
    pub keeps-next : {c₁ c' : Counting} → CountsAll L (rows_of L x.rows text' x.start) c c₁ → ((L : ℕ) → EndsMeasure (Counted L c₁) (Counted L c')) → x.number < length densities
        → (d : ℕ) → ((L : ℕ) (ms : List (List Row)) (cur : List Row) → Counted L c₁ ms cur → d ≡ density cur) → Keeps L chart_text m' c' text' (set densities x.number d) (done ++ (rows_of L x.rows text' x.start ∷ []))
    keeps-next {c₁} {c'} counts ends room d told =
        let rows = rows_of L x.rows text' x.start in
        let counted = counts done k.counted in
        let size : length (done ++ (rows ∷ [])) ≡ x.number + 1 = rw length-append (omega (arith, next-number k.read n)) in
        let before : take x.number densities ≡ map density done = ap (λ n. take n densities) (next-number k.read n) ∙ k.stored in
        record {
          read = n.read Lines L chart_text done k.read;
          counted = ends L done rows counted;
          stored = rw (size, add-one, take-suc-set densities x.number d room, before, told L done rows counted) (sym (map-append density done (rows ∷ [])));
        }

  -- All are read.
  pub kept-all : {m' : Measures} {text' : List ℕ} → AllRead m text m' text' → KeptAll L chart_text (record { counting = c; bytes = m'.out; measures = m'.number }) text' densities
  unfolding densities_of minimised_text
  kept-all {m'} {text'} n =
      let r = n.read Lines L chart_text done k.read in
      let all = all-minimised r n.over in
      let rows : joined done ++ [] ≡ joined (minimised L chart_text) = append-nil (joined done) ∙ ap joined (sym all) in
      record {
        text_is = all-text r n.over;
        short = read-short r;
        densities_are = ap (λ n. take n densities) r.number ∙ k.stored ∙ ap (map density) (sym all);
        measures = all-number r n.over;
        stats = k.counted.stats ∙ ap tally rows;
        phantoms = subst (λ rs. Counts L rs c.phantoms) rows k.counted.phantoms;
        rows = k.counted.rows ∙ ap length rows;
      }

-- some were
pub record KeepsSome (L : ℕ) (chart_text : List ℕ) (m : Measures) (c : Counting) (text densities : List ℕ) : Type 0 where
  pub done : List (List Row)
  pub keeps : Keeps L chart_text m c text densities done
