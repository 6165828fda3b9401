-- Specification, Sheets: what a sheet is made of. The densities, the spacing and the note records are beside these figures.
use Rattle.std.specs.Prelude.{List, ℕ}
use Rattle.definitions.specs.Figures.{minimised_text}
use Rattle.definitions.specs.Judged.{judged_tally}
use Rattle.definitions.specs.Entries.{figures_of_chart, figures_of_kept}
use Rattle.sheet.specs.declared.SheetFigures.{SheetFigures}

-- "It is made of the main call's figures, the kept tally, the judged tally of the minimised text with every row judged"
unfoldable pub sheet_figures : ℕ → List ℕ → SheetFigures
sheet_figures L text =
    record {
      chart = figures_of_chart L text;
      kept = figures_of_kept L text;
      judged = judged_tally L (minimised_text L text);
    }
