-- A chart's minimised measures as they are read: those that stand in the text slice, and those that are left.
use Rattle.std.specs.Prelude.{◌≡◌, true, if◌then◌else◌, Option, Some, None, List, [], ◌∷◌, ◌++◌, map, ℕ, ◌+◌, ◌*◌, ◌≤◌, length, take}
use Rattle.definitions.specs.Lines.{Row}
use Rattle.definitions.specs.Reduction.{reduce, minimised}
use Rattle.reduction.specs.Rows.{rows_from}
use Rattle.reader.specs.Marks.{measures_of}
use Rattle.measures.specs.declared.RowForm.{RowForm}
use Rattle.measures.specs.declared.Measure.{Measure}
use Rattle.measures.specs.declared.Measures.{Measures}
use Rattle.measures.specs.Forms.{row_width, so_far}
use Rattle.measures.specs.Lines.{Fits}

-- the minimised measures that are left
abbrev pub left : Measures → List (List Row)
left m = if m.over then [] else map reduce (measures_of m.lines)

-- Of a chart the minimised measures `done` were read: the text slice has them, and room for those that are left.
pub record Read (f : RowForm) (L : ℕ) (chart_text : List ℕ) (m : Measures) (text : List ℕ) (done : List (List Row)) : Type 0 where
  pub form : m.form ≡ f
  pub lanes : m.lanes.count ≡ L
  pub minimised_are : minimised L chart_text ≡ done ++ left m
  pub number : m.number ≡ length done
  pub fits : Fits L m.lines (length chart_text + 1) m.out
  pub text_is : take m.out text ≡ so_far f m.over done

-- it is of some chart, and the text slice has room for all of it
pub record Reading (m : Measures) (text : List ℕ) : Type 0 where
  pub chart_text : List ℕ
  pub done : List (List Row)
  pub read : Read m.form m.lanes.count chart_text m text done
  pub room : length chart_text + 1 ≤ length text

-- the L cells of its rows, which stand in the text
abbrev pub rows_in : RowForm → ℕ → Measure → List ℕ → List Row
rows_in f L x text = rows_from (row_width f L) L x.rows x.start text

-- The next measure was read, which stands in the text.
pub record MeasureRead (m : Measures) (text : List ℕ) (x : Measure) (m' : Measures) (text' : List ℕ) : Type 0 where
  pub in_text : x.start + x.rows * row_width m.form m.lanes.count ≤ length text'
  pub left_is : left m ≡ rows_in m.form m.lanes.count x text' ∷ left m'
  pub number : x.number ≡ m.number
  pub read : (f : RowForm) (L : ℕ) (chart_text : List ℕ) (done : List (List Row))
      → Read f L chart_text m text done → Read f L chart_text m' text' (done ++ (rows_in f L x text' ∷ []))

-- None is left.
pub record AllRead (m : Measures) (text : List ℕ) (m' : Measures) (text' : List ℕ) : Type 0 where
  pub over : m'.over ≡ true
  pub read : (f : RowForm) (L : ℕ) (chart_text : List ℕ) (done : List (List Row))
      → Read f L chart_text m text done → Read f L chart_text m' text' done

abbrev pub NextRead : Measures → List ℕ → Option Measure → Measures → List ℕ → Type 0
NextRead m text None m' text' = AllRead m text m' text'
NextRead m text (Some x) m' text' = MeasureRead m text x m' text'
