-- Minimised text is read back to the chart's own rows, since no row has a 13: so the main and the kept-row tally agree.
use mathlib.Core.Path.{◌≡◌, refl, ap, sym, ◌∙◌}
use mathlib.Core.Bool.{Bool, true, false, ◌&&◌}
use mathlib.Core.List.{List, [], ◌∷◌, ◌++◌, append_assoc, append-nil}
use Prim.Native.Nat.{ℕ, zero, suc, ◌≤◌}
use native.Mathlib.Omega.{arith}
use borrow.Author.Tests.{le-leb, lt-leb}
use lib.Dec.{eqb}
use lib.ListN.{length, take}
use lib.Seq.{take_all}
use Rattle.std.proofs.lemmas.Bool.{or_parts}
use Rattle.definitions.specs.Lists.{among, joined, only_if}
use Rattle.definitions.specs.Lines.{Row, cut, is_row_line}
use Rattle.definitions.specs.Reduction.{minimised}
use Rattle.definitions.specs.Figures.{row_text, text_of, minimised_text}
use Rattle.definitions.specs.Correction.{corrects, corrected}
use Rattle.definitions.specs.Tally.{tally}
use Rattle.definitions.specs.ReadBack.{without_cr, back_row, back_rows, rows_read_back, main_tally, kept_tally, OwnRows, MainKeptAgree}
use Rattle.definitions.proofs.Bools.{equal-turned}
use Rattle.definitions.proofs.Lists.{All, one, all-joined}
use Rattle.definitions.proofs.ChartRows.{Clean, ChartRow, minimised-rows, minimised-narrow}

-- ---- The lines of minimised text are its rows, the `,` lines and an empty last one.
pub cut-row : (r : Row) (s : List ℕ) → Clean r → cut (r ++ (10 ∷ s)) ≡ r ∷ cut s
cut-row [] s a = refl
cut-row (b ∷ r) s (one e a) = rw (e, cut-row r s a)

cut-rows : (L : ℕ) (m : List Row) (s : List ℕ) → All (ChartRow L) m → cut (row_text m ++ s) ≡ m ++ cut s
cut-rows L [] s a = refl
cut-rows L (r ∷ m) s (one x a) =
    ap cut (append_assoc r (10 ∷ row_text m) s) ∙ cut-row r (row_text m ++ s) x.clean ∙ ap {B = List (List ℕ)} (λ ls. r ∷ ls) (cut-rows L m s a)

abbrev text_lines : List (List Row) → List (List ℕ)
text_lines [] = [] ∷ []
text_lines (m ∷ []) = m ++ ([] ∷ [])
text_lines (m ∷ m' ∷ ms) = m ++ ((44 ∷ []) ∷ text_lines (m' ∷ ms))

cut-text : (L : ℕ) (ms : List (List Row)) → All (All (ChartRow L)) ms → cut (text_of ms) ≡ text_lines ms
cut-text L [] a = refl
cut-text L (m ∷ []) (one p a) = ap cut (sym (append-nil (row_text m))) ∙ cut-rows L m [] p
cut-text L (m ∷ m' ∷ ms) (one p a) =
    cut-rows L m (44 ∷ 10 ∷ text_of (m' ∷ ms)) p ∙ ap {B = List (List ℕ)} (λ ls. m ++ ((44 ∷ []) ∷ ls)) (cut-text L (m' ∷ ms) a)

-- ---- Each row is read back as itself, and no other line is a row.

-- a line without a 13 loses nothing at its end
without-none : (l : List ℕ) → among 13 l ≡ false → without_cr l ≡ l
without-none [] e = refl
without-none (b ∷ []) e = let n : eqb b 13 ≡ false = equal-turned b 13 ∙ (or_parts (eqb 13 b) false e).0 in rw n
without-none (b ∷ b' ∷ s) e = ap (λ l. b ∷ l) (without-none (b' ∷ s) (or_parts (eqb 13 b) (among 13 (b' ∷ s)) e).1)

own_row : (L : ℕ) (r : Row) → ChartRow L r → back_row L (without_cr r) ≡ r ∷ []
unfolding is_row_line
own_row L r x =
    let all : length r ≤ L = omega (arith, x.size) in
    let wide : L ≤ length r = omega (arith, x.size) in
    rw (without-none r x.plain, le-leb L (length r) wide, take_all L r all, x.plain, x.unmarked)

own-measure : (L : ℕ) (m : List Row) (ls : List (List ℕ)) → All (ChartRow L) m → back_rows L (m ++ ls) ≡ m ++ back_rows L ls
own-measure L [] ls a = refl
own-measure L (r ∷ m) ls (one x a) = rw (own_row L r x) (ap (λ (l : List Row). r ∷ l) (own-measure L m ls a))

empty-none : (L : ℕ) → 1 ≤ L → back_row L [] ≡ []
unfolding is_row_line
empty-none L w = rw (lt-leb L 0 w)

comma-none : (L : ℕ) → back_row L (44 ∷ []) ≡ []
comma-none L = go (is_row_line L (44 ∷ [])) (take L (44 ∷ []))
  where
    go : (t : Bool) (r : Row) → only_if (t && false) (r ∷ []) ≡ []
    go true r = refl
    go false r = refl

own-measures : (L : ℕ) (ms : List (List Row)) → 1 ≤ L → All (All (ChartRow L)) ms → back_rows L (text_lines ms) ≡ joined ms
own-measures L [] w a = rw (empty-none L w)
own-measures L (m ∷ []) w (one p a) = own-measure L m ([] ∷ []) p ∙ rw (empty-none L w)
own-measures L (m ∷ m' ∷ ms) w (one p a) =
    own-measure L m ((44 ∷ []) ∷ text_lines (m' ∷ ms)) p
    ∙ rw (comma-none L) (ap (λ (l : List Row). m ++ l) (own-measures L (m' ∷ ms) w a))

-- The text of measures read back has their rows.
pub text-back : (L : ℕ) (ms : List (List Row)) → 1 ≤ L → All (All (ChartRow L)) ms → rows_read_back L (text_of ms) ≡ joined ms
unfolding rows_read_back
text-back L ms w a = ap (back_rows L) (cut-text L ms a) ∙ own-measures L ms w a

-- Minimised text read back gives the chart's own rows.
pub own-rows : OwnRows
unfolding OwnRows minimised_text
own-rows L text w = text-back L (minimised L text) w (minimised-rows L text w)

-- ---- The tallies agree.
-- rows without cells have no head, so nothing is counted anew
no-cells : (rs : List Row) → All (λ (r : Row). length r ≤ 0) rs → joined rs ≡ []
no-cells [] a = refl
no-cells ([] ∷ rs) (one h a) = no-cells rs a
no-cells ((b ∷ r) ∷ rs) (one h a) = absurd (omega (arith, h))

no-head : (rs back : List Row) → joined rs ≡ [] → corrected 0 rs back ≡ tally rs
unfolding corrected corrects
no-head rs back e = rw e

pub main-kept-agree : MainKeptAgree
unfolding MainKeptAgree OwnRows main_tally kept_tally
main-kept-agree zero text =
    let none = no-cells (joined (minimised 0 text)) (all-joined (minimised-narrow 0 text)) in
    no-head (joined (minimised 0 text)) _ none ∙ sym (no-head (joined (minimised 0 text)) (joined (minimised 0 text)) none)
main-kept-agree (suc L) text = ap (corrected (suc L) (joined (minimised (suc L) text))) (own-rows (suc L) text (omega arith))
