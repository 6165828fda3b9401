-- Rows of a measure that stand in a text: their places, and one row more.
use mathlib.Core.Path.{◌≡◌, ap, sym, ◌∙◌}
use mathlib.Core.List.{List, [], ◌∷◌, ◌++◌}
use Prim.Native.Nat.{ℕ, ◌+◌, ◌-◌, ◌*◌, ◌≤◌, ◌<◌}
use native.Mathlib.Nat.{add-sub_cancel_left}
use native.Mathlib.Numerals.{add-one}
use native.Mathlib.Omega.{arith}
use lib.ListN.{length, take, drop, get_or, length-drop}
use lib.Seq.{take-suc, length-take-le}
use Rattle.definitions.specs.Lines.{Row}
use Rattle.reduction.specs.Rows.{rows_of}
use Rattle.measure_tally.specs.Counted.{Counted}
use Rattle.measure_tally.specs.declared.Counting.{Counting}
use Rattle.reduction.proofs.RowsAt.{rows-length, row-part}
use Rattle.reduction.proofs.Powers.{row-end}

-- Of a measure's rows ms, which stand in a text from start on, the first i have been counted, and the next one stands at `at`.
pub record CountingAll (L : ℕ) (ms : List Row) (start rows : ℕ) (before now : Counting) (i at : ℕ) : Type 0 where
  pub within : i ≤ rows
  pub stands : at ≡ start + i * (L + 1)
  pub counted : (done : List (List Row)) → Counted L before done [] → Counted L now done (take i ms)

-- the row at a place
abbrev pub part : ℕ → List ℕ → ℕ → Row
part L text at = take (at + L - at) (drop at text)

module _ (L rows : ℕ) (text : List ℕ) (start : ℕ) (fits : start + rows * (L + 1) ≤ length text) (i at : ℕ) (h : i < rows) (e : at ≡ start + i * (L + 1)) where
  pub row_room : at + (L + 1) ≤ length text
  row_room = omega (arith, e, row-end i rows (L + 1) h)

  pub row-wide : length (part L text at) ≡ L
  row-wide =
      let there : L ≤ length (drop at text) = rw length-drop (omega (arith, row_room)) in
      ap (λ n. length (take n (drop at text))) (add-sub_cancel_left at L) ∙ length-take-le L (drop at text) there

  pub row_more : take (i + 1) (rows_of L rows text start) ≡ take i (rows_of L rows text start) ++ (part L text at ∷ [])
  row_more =
      let ms = rows_of L rows text start in
      let here : i < length ms = rw rows-length h in
      let row : get_or ms i [] ≡ part L text at = row-part text start (L + 1) L rows i h ∙ ap (λ p. take (p + L - p) (drop p text)) (sym e) in
      ap (λ p. take p ms) (add-one i) ∙ take-suc ms i [] here ∙ ap (λ r. take i ms ++ (r ∷ [])) row
