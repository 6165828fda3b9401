-- What the pass and the calls leave of a text, put together.
use mathlib.Core.Path.{◌≡◌, ap, ap₂, ◌∙◌}
use mathlib.Core.List.{List}
use Prim.Native.Nat.{ℕ, ◌+◌, ◌-◌, ◌≤◌}
use native.Mathlib.Nat.{mul-le-mul_right}
use native.Mathlib.Omega.{arith}
use lib.Ieee.Nearest.{div_mono}
use lib.ListN.{length, take}
use lib.Seq.{take-append_seam}
use Rattle.definitions.specs.Lists.{padded}
use Rattle.definitions.specs.Lanes.{most_rows_in}
use Rattle.definitions.specs.Figures.{minimised_text}
use Rattle.definitions.specs.Judged.{judged_tally}
use Rattle.definitions.specs.ReadBack.{MainKeptAgree}
use Rattle.definitions.specs.Entries.{figures_of_chart, figures_of_kept}
use Rattle.definitions.proofs.ChartRows.{minimised-short}
use Rattle.definitions.proofs.LastByte.{judged-last}
use Rattle.definitions.proofs.OwnRows.{main-kept-agree}
use Rattle.definitions.specs.declared.ArrowStats.{ArrowStats}
use Rattle.definitions.specs.declared.ChartFigures.{ChartFigures}
use Rattle.definitions.specs.declared.KeptFigures.{KeptFigures}
use Rattle.sheet.specs.declared.SheetFigures.{SheetFigures}
use Rattle.sheet_answers.specs.Answers.{sheet_figures}

-- a shorter text has no more rows
pub rows-fewer : (L a b : ℕ) → a ≤ b → most_rows_in L a ≤ most_rows_in L b
unfolding most_rows_in
rows-fewer L a b h =
    let more : a + 1 ≤ b + 1 = omega arith in
    div_mono (a + 1) (L + 1) (b + 1) (L + 1) (omega arith) (omega arith) (mul-le-mul_right (L + 1) more)

module _ (L : ℕ) (text : List ℕ) where
  -- without its last byte it is no longer than the text
  pub minimised-less : (m : List ℕ) → m ≡ minimised_text L text → length m - 1 ≤ length text
  minimised-less m e = omega (arith, ap length e, minimised-short L text)

  pub judged-part : 1 ≤ L → {m : List ℕ} {t : ArrowStats} → m ≡ minimised_text L text → t ≡ judged_tally L (take (length m - 1) m)
      → t ≡ judged_tally L (minimised_text L text)
  judged-part h e f = f ∙ ap (λ (m : List ℕ). judged_tally L (take (length m - 1) m)) e ∙ judged-last L text h

  module _ {a : ChartFigures} (e : a ≡ figures_of_chart L text) where
    -- the main call leaves the minimised text in the front of the text slice
    pub front-part : (n : ℕ) {t : List ℕ} → t ≡ padded 0 n (minimised_text L text) → take a.bytes t ≡ minimised_text L text
    unfolding figures_of_chart
    front-part n f = ap₂ take (ap (λ (f : ChartFigures). f.bytes) e) f ∙ take-append_seam (minimised_text L text) _

    pub front-short : a.bytes ≤ length text + 1
    unfolding figures_of_chart
    front-short = omega (arith, ap (λ (f : ChartFigures). f.bytes) e, minimised-short L text)

    -- the kept-row call's figures are the main call's, and so is its tally
    pub kept-are : ◌≡◌ {A = KeptFigures} (record { bytes = a.bytes; measures = a.measures; rows = a.rows; stats = a.stats }) (figures_of_kept L text)
    unfolding figures_of_chart figures_of_kept MainKeptAgree
    kept-are =
        made (ap (λ (f : ChartFigures). f.bytes) e) (ap (λ (f : ChartFigures). f.measures) e) (ap (λ (f : ChartFigures). f.rows) e)
        (ap (λ (f : ChartFigures). f.stats) e ∙ main-kept-agree L text)
      where
        made : {a b c d f g : ℕ} {s t : ArrowStats} → a ≡ b → c ≡ d → f ≡ g → s ≡ t
            → ◌≡◌ {A = KeptFigures} (record { bytes = a; measures = c; rows = f; stats = s }) (record { bytes = b; measures = d; rows = g; stats = t })
        made p q r s = cc

  pub figures-are : {a : ChartFigures} {b : KeptFigures} {c : ArrowStats} → a ≡ figures_of_chart L text → b ≡ figures_of_kept L text
      → c ≡ judged_tally L (minimised_text L text) → ◌≡◌ {A = SheetFigures} (record { chart = a; kept = b; judged = c }) (sheet_figures L text)
  unfolding sheet_figures
  figures-are p q r = cc
