-- From the measures that were read to what the call answers.
use mathlib.Core.Path.{◌≡◌, refl, ap, sym, ◌∙◌}
use mathlib.Core.List.{List, []}
use Prim.Native.Nat.{ℕ, ◌+◌, ◌-◌, ◌*◌, ◌≤◌, ◌<◌}
use native.Mathlib.Nat.{mul-le-mul_left}
use native.Mathlib.Omega.{arith}
use lib.ListN.{length, take}
use lib.Seq.{length-take-le}
use Rattle.definitions.specs.Sizes.{most_bytes}
use Rattle.definitions.specs.Lists.{joined, padded}
use Rattle.definitions.specs.Lanes.{most_rows_in}
use Rattle.definitions.specs.Lines.{Row}
use Rattle.definitions.specs.Figures.{minimised_text}
use Rattle.definitions.specs.Dropped.{dropped_heads}
use Rattle.definitions.specs.Entries.{measure_count, row_count, figures_of_dropped}
use Rattle.definitions.specs.declared.DroppedFigures.{DroppedFigures}
use Rattle.definitions.proofs.ChartRows.{minimised-rows-few}
use Rattle.slices.specs.Zeroed.{zeroed}
use Rattle.slices.proofs.Zeroed.{zeroed-answer}
use Rattle.dropped_list.specs.TextOf.{TextOf, SomeText}
use Rattle.measures.specs.declared.RowForm.TheVariants.{Lines}
use Rattle.measures.specs.declared.Measure.{Measure}
use Rattle.measures.specs.declared.Measures.{Measures}
use Rattle.measures.specs.Reading.{Read, MeasureRead}
use Rattle.measures.proofs.Reading.{next-rows, read-fifth}

-- the rows of the measures that were read are so many
pub record RowsRead (L : ℕ) (chart_text : List ℕ) (m : Measures) (text : List ℕ) (rows : ℕ) : Type 0 where
  pub done : List (List Row)
  pub read : Read Lines L chart_text m text done
  pub rows_are : rows ≡ length (joined done)

pub rows-start : {L : ℕ} {chart_text : List ℕ} {m : Measures} {text : List ℕ} → Read Lines L chart_text m text [] → RowsRead L chart_text m text 0
rows-start r = record { done = []; read = r; rows_are = refl }

pub rows-next : {L : ℕ} {chart_text : List ℕ} {m : Measures} {text : List ℕ} {rows : ℕ} → RowsRead L chart_text m text rows
    → {x : Measure} {m' : Measures} {text' : List ℕ} → MeasureRead m text x m' text' → RowsRead L chart_text m' text' (rows + x.rows)
rows-next r n = record { done = _; read = n.read Lines _ _ r.done r.read; rows_are = omega (arith, r.rows_are, next-rows r.read n) }

pub rows-few : {L : ℕ} → 4 ≤ L → {chart_text : List ℕ} {m : Measures} {text : List ℕ} {rows : ℕ} → RowsRead L chart_text m text rows → length chart_text ≤ most_bytes → rows < 4294967296
rows-few w r h = omega (arith, h, r.rows_are, read-fifth r.read w)

module _ (L : ℕ) (chart_text text : List ℕ) (bytes : ℕ) (text_is : take bytes text ≡ minimised_text L chart_text) where
  module _ (rows : ℕ) (rows_are : rows ≡ row_count L chart_text) where
    -- the part of the text slice that is read from its end
    pub own-text : TextOf L chart_text (take (bytes - 0) text) rows
    own-text = let n : bytes - 0 ≡ bytes = omega arith in record { text_is = ap (λ k. take k text) n ∙ text_is; rows_are = rows_are }

    pub some-text : SomeText L (take (bytes - 0) text) rows
    some-text = record { chart = chart_text; held = own-text }

  pub all-text : bytes ≤ length chart_text + 1 → (n : ℕ) → length text ≡ n → length chart_text + 1 ≤ n → zeroed 0 bytes text ≡ padded 0 n (minimised_text L chart_text)
  all-text short n size h = zeroed-answer 0 text bytes n (λ L. minimised_text L chart_text) refl size (omega arith) text_is

  pub all-figures : bytes ≤ length text → {measures rows heads : ℕ} → measures ≡ measure_count L chart_text → rows ≡ row_count L chart_text → heads ≡ length (dropped_heads L chart_text)
      → record { bytes = bytes; measures = measures; rows = rows; heads = heads } ≡ figures_of_dropped L chart_text
  unfolding figures_of_dropped
  all-figures fits m r e = made (sym (ap length (sym text_is) ∙ length-take-le bytes text fits)) m r e
    where
      made : {a b c d f g h k : ℕ} → a ≡ b → c ≡ d → f ≡ g → h ≡ k
          → ◌≡◌ {A = DroppedFigures} (record { bytes = a; measures = c; rows = f; heads = h }) (record { bytes = b; measures = d; rows = g; heads = k })
      made p q r s = cc

-- the list has room for each cell of its rows
pub list_room : (L rows : ℕ) (chart_text : List ℕ) → rows ≡ row_count L chart_text → 4 ≤ L → (n : ℕ) → 10 * L * most_rows_in L (length chart_text) ≤ n → L * rows * 10 ≤ n
list_room L rows chart_text e w n h =
    let few : rows ≤ most_rows_in L (length chart_text) = omega (arith, e, minimised-rows-few L chart_text (omega (arith, w))) in
    let most : 10 * L * rows ≤ 10 * L * most_rows_in L (length chart_text) = mul-le-mul_left (10 * L) few in
    let same : L * rows * 10 ≡ 10 * L * rows = grind arith in
    omega (arith, most, same, h)
