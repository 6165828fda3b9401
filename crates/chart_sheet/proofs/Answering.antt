-- The forms of all answers of a text: each is the text's sheet, and has room in the slice that the call asks for.
use mathlib.Core.Path.{◌≡◌}
use mathlib.Core.Bool.{Bool, true, false, cond}
use mathlib.Core.List.{List}
use Prim.Native.Nat.{ℕ, ◌+◌, ◌*◌, ◌≤◌}
use native.Mathlib.Omega.{arith}
use lib.Dec.{eqb}
use lib.ListN.{length}
use Rattle.std.proofs.lemmas.List.Elements.{All-set}
use Rattle.definitions.specs.Sizes.{most_bytes}
use Rattle.definitions.specs.Figures.{densities, spacings}
use Rattle.definitions.specs.Notes.{notes}
use Rattle.definitions.specs.Records.{records}
use Rattle.definitions.specs.Entries.{figures_of_chart, places_of_chart}
use Rattle.figures.proofs.Fit.{Fits, AllFit, chart-fits}
use Rattle.sheet_answers.specs.Answers.{sheet_figures}
use Rattle.chart_sheet.specs.Entry.{places_of_sheet}
use Rattle.chart_sheet.specs.Forms.{form_of, printed, json_object, sheet_in_form}
use Rattle.chart_sheet.proofs.Lines.{card-lines}
use Rattle.chart_sheet.proofs.CardRoom.{card-room}
use Rattle.chart_sheet.proofs.PrintRoom.{print-room}
use Rattle.chart_sheet.proofs.JsonRoom.{json-room}

-- a form of all answers of a text is the text's sheet
pub form-sheet : (form L : ℕ) (some : 1 ≤ L) (ten : L ≤ 10) (text : List ℕ) → length text ≤ most_bytes
    → form_of form (sheet_figures L text) (densities L text) (spacings L text) (records (notes L text))
    ≡ sheet_in_form form L text
unfolding form_of sheet_in_form printed json_object sheet_figures
form-sheet form L some ten text short = rw (card-lines L some ten text short)

-- one of three lists has room where each has
pick-room : (n : ℕ) (t u : Bool) (a b c : List ℕ) → length a ≤ n → length b ≤ n → length c ≤ n → length (cond t a (cond u b c)) ≤ n
pick-room n true u a b c p q r = p
pick-room n false true a b c p q r = q
pick-room n false false a b c p q r = r

-- every form of the text's sheet has room
pub sheet-room : (L : ℕ) → 4 ≤ L → L ≤ 10 → (form : ℕ) (text : List ℕ) → length text ≤ most_bytes → length (sheet_in_form form L text) ≤ 42 * (length text + 1) + 3000
unfolding sheet_in_form
sheet-room L four ten form text short =
    pick-room (42 * (length text + 1) + 3000) (eqb form 0) (eqb form 1) _ _ _
    (card-room L four ten text short)
    (print-room L four ten text short)
    (json-room L four ten text short)

-- and its bytes, as every figure that the call answers, are below 2 ^ 64
pub sheet-fits : (L : ℕ) → 4 ≤ L → L ≤ 10 → (form : ℕ) (text : List ℕ) → length text ≤ most_bytes → AllFit (places_of_sheet form L text)
sheet-fits L four ten form text short =
    All-set Fits (places_of_chart (figures_of_chart L text)) 7 (length (sheet_in_form form L text)) (omega (arith, sheet-room L four ten form text short)) (chart-fits L four ten text short)
