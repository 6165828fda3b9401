-- Minimised text by its lines from the last one up: rows, and the `,` lines between measures.
use mathlib.Core.Path.{◌≡◌, refl, ap, sym, ◌∙◌}
use mathlib.Core.Bool.{false}
use mathlib.Core.List.{List, [], ◌∷◌, ◌++◌, append_assoc, append-nil}
use Rattle.std.specs.Prelude.{Option, Some, None}
use Prim.Native.Nat.{ℕ, zero, suc, ◌+◌}
use lib.Dec.{eqb}
use lib.ListN.{length, get_or}
use lib.Seq.{get_or-append-add}
use Rattle.definitions.specs.Lists.{joined}
use Rattle.definitions.specs.Lines.{Row}
use Rattle.definitions.specs.Figures.{row_text, text_of}
use Rattle.definitions.proofs.Lists.{All, none, one}
use Rattle.definitions.proofs.ChartRows.{Clean, ChartRow}

-- a line's bytes without its newline: a row, or a `,`
abbrev pub line_of : Option Row → List ℕ
line_of None = 44 ∷ []
line_of (Some r) = r

abbrev pub row_of : Option Row → List Row
row_of None = []
row_of (Some r) = r ∷ []

-- the text of lines from the last up, and their rows
abbrev pub lines_text : List (Option Row) → List ℕ
lines_text [] = []
lines_text (l ∷ ls) = lines_text ls ++ (line_of l ++ (10 ∷ []))

abbrev pub lines_rows : List (Option Row) → List Row
lines_rows [] = []
lines_rows (l ∷ ls) = lines_rows ls ++ row_of l

-- each row is a chart's
abbrev pub LineOf : ℕ → Option Row → Type 0
LineOf L None = Unit {0}
LineOf L (Some r) = ChartRow L r

-- ---- The lines of a chart

-- a measure's rows below these lines
abbrev with_rows : List (Option Row) → List Row → List (Option Row)
with_rows ls [] = ls
with_rows ls (r ∷ rs) = with_rows (Some r ∷ ls) rs

-- measures below them
abbrev pub with_measures : List (Option Row) → List (List Row) → List (Option Row)
with_measures ls [] = ls
with_measures ls (m ∷ []) = with_rows ls m
with_measures ls (m ∷ m' ∷ ms) = with_measures (None ∷ with_rows ls m) (m' ∷ ms)

rows-text : (ls : List (Option Row)) (rs : List Row) → lines_text (with_rows ls rs) ≡ lines_text ls ++ row_text rs
rows-text ls [] = sym (append-nil (lines_text ls))
rows-text ls (r ∷ rs) =
    rows-text (Some r ∷ ls) rs
    ∙ append_assoc (lines_text ls) (r ++ (10 ∷ [])) (row_text rs)
    ∙ ap (λ l. lines_text ls ++ l) (append_assoc r (10 ∷ []) (row_text rs))

pub measures-text : (ls : List (Option Row)) (ms : List (List Row)) → lines_text (with_measures ls ms) ≡ lines_text ls ++ text_of ms
measures-text ls [] = sym (append-nil (lines_text ls))
measures-text ls (m ∷ []) = rows-text ls m
measures-text ls (m ∷ m' ∷ ms) =
    measures-text (None ∷ with_rows ls m) (m' ∷ ms)
    ∙ append_assoc (lines_text (with_rows ls m)) (44 ∷ 10 ∷ []) (text_of (m' ∷ ms))
    ∙ ap (λ l. l ++ (44 ∷ 10 ∷ text_of (m' ∷ ms))) (rows-text ls m)
    ∙ append_assoc (lines_text ls) (row_text m) (44 ∷ 10 ∷ text_of (m' ∷ ms))

rows-rows : (ls : List (Option Row)) (rs : List Row) → lines_rows (with_rows ls rs) ≡ lines_rows ls ++ rs
rows-rows ls [] = sym (append-nil (lines_rows ls))
rows-rows ls (r ∷ rs) = rows-rows (Some r ∷ ls) rs ∙ append_assoc (lines_rows ls) (r ∷ []) rs

pub measures-rows : (ls : List (Option Row)) (ms : List (List Row)) → lines_rows (with_measures ls ms) ≡ lines_rows ls ++ joined ms
measures-rows ls [] = sym (append-nil (lines_rows ls))
measures-rows ls (m ∷ []) = rows-rows ls m ∙ ap (λ l. lines_rows ls ++ l) (sym (append-nil m))
measures-rows ls (m ∷ m' ∷ ms) =
    measures-rows (None ∷ with_rows ls m) (m' ∷ ms)
    ∙ ap (λ l. l ++ joined (m' ∷ ms)) (append-nil (lines_rows (with_rows ls m)) ∙ rows-rows ls m)
    ∙ append_assoc (lines_rows ls) m (joined (m' ∷ ms))

rows-each : {L : ℕ} {ls : List (Option Row)} {rs : List Row} → All (LineOf L) ls → All (ChartRow L) rs → All (LineOf L) (with_rows ls rs)
rows-each p none = p
rows-each p (one {a = r} x q) = rows-each (one {a = Some r} x p) q

pub measures-each : {L : ℕ} {ls : List (Option Row)} {ms : List (List Row)} → All (LineOf L) ls → All (All (ChartRow L)) ms → All (LineOf L) (with_measures ls ms)
measures-each p none = p
measures-each p (one x none) = rows-each p x
measures-each p (one x (one y q)) = measures-each (one {a = None} tt (rows-each p x)) (one y q)

-- ---- The last bytes

-- behind p stands the byte after w
behind : (p w : List ℕ) (b : ℕ) → get_or (p ++ (w ++ (b ∷ []))) (length p + length w) 0 ≡ b
behind p w b = get_or-append-add p (w ++ (b ∷ [])) (length w) 0 ∙ go w
  where
    go : (w : List ℕ) → get_or (w ++ (b ∷ [])) (length w) 0 ≡ b
    go [] = refl
    go (x ∷ w) = go w

-- lines end in a newline
pub newline-last : (l : Option Row) (ls : List (Option Row)) → get_or (lines_text (l ∷ ls)) (length (lines_text ls) + length (line_of l)) 0 ≡ 10
newline-last l ls = behind (lines_text ls) (line_of l) 10

-- a row has none
pub clean-at : (r : Row) (i : ℕ) → Clean r → eqb (get_or r i 0) 10 ≡ false
clean-at [] i none = refl
clean-at (b ∷ r) zero (one e a) = e
clean-at (b ∷ r) (suc i) (one e a) = clean-at r i a
