-- Specification, Sheets: "A sheet is one text's figures as bytes of ASCII, in a form: 0 card, 1 print, 2 JSON."
use Rattle.std.specs.Prelude.{if◌then◌else◌, ◌==◌, List, ℕ}
use Rattle.definitions.specs.Figures.{densities, spacings}
use Rattle.definitions.specs.Notes.{notes}
use Rattle.definitions.specs.Records.{records}
use Rattle.sheet.specs.Sheet.{sheet_of}
use Rattle.sheet.specs.Card.{sheet}
use Rattle.sheet.specs.declared.SheetFigures.{SheetFigures}
use Rattle.sheet_print.specs.Print.{print_of}
use Rattle.sheet_json.specs.Json.{json_of}
use Rattle.sheet_answers.specs.Answers.{sheet_figures}

-- a form from the figures, the densities and spacings of all measures and all note records
unfoldable pub form_of : ℕ → SheetFigures → List ℕ → List ℕ → List ℕ → List ℕ
form_of form f ds ss rs = if form == 0 then sheet_of f.chart ds ss rs else (if form == 1 then print_of f ds ss rs else json_of f ds ss rs)

-- the form `print` of a text
unfoldable pub printed : ℕ → List ℕ → List ℕ
printed L text = print_of (sheet_figures L text) (densities L text) (spacings L text) (records (notes L text))

-- the form `json` of a text
unfoldable pub json_object : ℕ → List ℕ → List ℕ
json_object L text = json_of (sheet_figures L text) (densities L text) (spacings L text) (records (notes L text))

-- the sheet of a text: the card's lines, or one of the fuller forms
unfoldable pub sheet_in_form : ℕ → ℕ → List ℕ → List ℕ
sheet_in_form form L text = if form == 0 then sheet L text else (if form == 1 then printed L text else json_object L text)
