-- The figures that a sheet prints, each below 2 ^ 64.
use Rattle.std.proofs.Common.{ℕ, zero, suc, ◌^◌, ◌<◌, ◌≤◌, List, [], ◌∷◌, length, get_or, arith}
use Rattle.std.proofs.lemmas.List.Elements.{recursion_from_All}
use Rattle.definitions.specs.Sizes.{most_bytes}
use Rattle.definitions.specs.Figures.{minimised_text}
use Rattle.definitions.specs.Judged.{judged_tally}
use Rattle.definitions.specs.Entries.{figures_of_chart, places_of_chart, figures_of_kept, places_of_kept, places_of_judged}
use Rattle.definitions.specs.declared.ArrowStats.{ArrowStats}
use Rattle.definitions.specs.declared.ChartFigures.{ChartFigures}
use Rattle.sheet.specs.Sheet.{named_fields, field_at}
use Rattle.sheet.specs.declared.SheetFigures.{SheetFigures}
use Rattle.sheet_answers.specs.Answers.{sheet_figures}
use Rattle.figures.proofs.Fit.{Fits, chart-fits, kept-fits, sheet_judged-fits}

-- of named counts
abbrev pub AllFit : List (List ℕ × ℕ) → Type 0
AllFit [] = Unit {0}
AllFit (f ∷ fs) = (f.1 < 2 ^ 64) × AllFit fs

fits-at : (fs : List (List ℕ × ℕ)) (i : ℕ) → AllFit fs → (get_or fs i ([], 0)).1 < 2 ^ 64
fits-at [] i all = omega arith
fits-at (f ∷ fs) zero all = all.0
fits-at (f ∷ fs) (suc i) all = fits-at fs i all.1

-- of a tally, field by field
pub record TallyFits (t : ArrowStats) : Type 0 where
  pub fields : AllFit (named_fields t)

pub field-fits : (t : ArrowStats) → TallyFits t → (i : ℕ) → (field_at t i).1 < 2 ^ 64
field-fits t fit i = fits-at (named_fields t) i fit.fields

pub record HeadsFit (f : ChartFigures) : Type 0 where
  pub measures : f.measures < 2 ^ 64
  pub rows : f.rows < 2 ^ 64
  pub notes : f.notes < 2 ^ 64
  pub last_row : f.last_row < 2 ^ 64
  pub arrows : f.stats.total_arrows < 2 ^ 64
  pub steps : f.stats.total_steps < 2 ^ 64
  pub keys : f.stats.keysounds < 2 ^ 64

pub record FiguresFit (f : SheetFigures) : Type 0 where
  pub heads : HeadsFit f.chart
  pub main : TallyFits f.chart.stats
  pub kept : TallyFits f.kept.stats
  pub judged : TallyFits f.judged

-- those of an accepted text are
pub printed-fit : (L : ℕ) → 4 ≤ L → L ≤ 10 → (text : List ℕ) → length text ≤ most_bytes → FiguresFit (sheet_figures L text)
unfolding sheet_figures named_fields
printed-fit L four ten text short =
    let chart = recursion_from_All Fits (places_of_chart (figures_of_chart L text)) (chart-fits L four ten text short) in
    let kept = recursion_from_All Fits (places_of_kept (figures_of_kept L text)) (kept-fits L four ten text short) in
    let judged = recursion_from_All Fits (places_of_judged (judged_tally L (minimised_text L text))) (sheet_judged-fits L four ten text short) in
    record {
      heads = omega arith;
      main = record { fields = omega arith };
      kept = record { fields = omega arith };
      judged = record { fields = omega arith };
    }
