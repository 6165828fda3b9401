-- Minimised text is empty or ends with byte 10. Without that byte it is read back to the same rows and has the same judged tally.
use mathlib.Core.Path.{◌≡◌, refl, ap, sym, ◌∙◌}
use mathlib.Core.Logic.{◌⊎◌, inl, inr, ⊎_elim}
use mathlib.Core.Bool.{Bool, true, false, cond}
use mathlib.Core.List.{List, [], ◌∷◌, ◌++◌, append_assoc}
use Prim.Native.Nat.{ℕ, ◌+◌, ◌-◌, ◌≤◌}
use native.Mathlib.Omega.{arith}
use borrow.Author.Tests.{lt-leb}
use lib.Dec.{eqb}
use lib.ListN.{length, take, length-append}
use lib.Seq.{take_at}
use Rattle.std.specs.List.{onto_first}
use Rattle.definitions.specs.Lines.{Row, cut, is_row_line}
use Rattle.definitions.specs.Reduction.{minimised}
use Rattle.definitions.specs.Figures.{row_text, text_of, minimised_text}
use Rattle.definitions.specs.ReadBack.{without_cr, back_row, back_rows, rows_read_back}
use Rattle.definitions.specs.Judged.{judged_rows, judged_tally}
use Rattle.definitions.proofs.ChartRows.{line_bytes, cut-bytes}

-- ---- Reading back
-- after a final byte 10 stands an empty line
cut-newline : (s : List ℕ) → cut (s ++ (10 ∷ [])) ≡ cut s ++ ([] ∷ [])
cut-newline [] = refl
cut-newline (b ∷ s) = ap (λ ls. cond (eqb b 10) ([] ∷ ls) (onto_first b ls)) (cut-newline s) ∙ go (eqb b 10) (cut s) (cut-bytes s)
  where
    go : (t : Bool) (ls : List (List ℕ)) → line_bytes ls ≡ length s + 1 → cond t ([] ∷ (ls ++ ([] ∷ []))) (onto_first b (ls ++ ([] ∷ []))) ≡ cond t ([] ∷ ls) (onto_first b ls) ++ ([] ∷ [])
    go true ls h = refl
    go false [] h = absurd (omega arith)
    go false (l ∷ ls) h = refl

-- which is no row
rows-newline : (L : ℕ) (ls : List (List ℕ)) → 1 ≤ L → back_rows L (ls ++ ([] ∷ [])) ≡ back_rows L ls
unfolding is_row_line
rows-newline L [] w = rw (lt-leb L 0 w)
rows-newline L (l ∷ ls) w = ap (λ (rs : List Row). back_row L (without_cr l) ++ rs) (rows-newline L ls w)

pub back-newline : (L : ℕ) (s : List ℕ) → 1 ≤ L → rows_read_back L (s ++ (10 ∷ [])) ≡ rows_read_back L s
unfolding rows_read_back
back-newline L s w = ap (back_rows L) (cut-newline s) ∙ rows-newline L (cut s) w

-- ---- The end of minimised text
-- a text that ends with byte 10
pub record EndsLine (t : List ℕ) : Type 0 where
  pub front : List ℕ
  pub whole : t ≡ front ++ (10 ∷ [])

-- it still does after more bytes
ends-after : (s : List ℕ) {t : List ℕ} → EndsLine t → EndsLine (s ++ t)
ends-after s {t} x =
    record { front = s ++ x.front; whole = ap (λ (l : List ℕ). s ++ l) x.whole ∙ sym (append_assoc s x.front (10 ∷ [])) }

-- byte 10 in front of such a text, or of none
ends-line : {t : List ℕ} → (t ≡ []) ⊎ EndsLine t → EndsLine (10 ∷ t)
ends-line {t} x = ⊎_elim (λ e. record { front = []; whole = ap (λ (l : List ℕ). 10 ∷ l) e }) (ends-after (10 ∷ [])) x

rows-ends : (m : List Row) → (row_text m ≡ []) ⊎ EndsLine (row_text m)
rows-ends [] = inl refl
rows-ends (r ∷ m) = inr (ends-after r (ends-line (rows-ends m)))

measures-ends : (ms : List (List Row)) → (text_of ms ≡ []) ⊎ EndsLine (text_of ms)
measures-ends [] = inl refl
measures-ends (m ∷ []) = rows-ends m
measures-ends (m ∷ m' ∷ ms) = inr (ends-after (row_text m) (ends-after (44 ∷ []) (ends-line (measures-ends (m' ∷ ms)))))

-- minimised text is empty or ends with byte 10
pub text-ends : (L : ℕ) (text : List ℕ) → (minimised_text L text ≡ []) ⊎ EndsLine (minimised_text L text)
unfolding minimised_text
text-ends L text = measures-ends (minimised L text)

-- ---- The judged tally
pub judged-newline : (L : ℕ) (s : List ℕ) → 1 ≤ L → judged_tally L (s ++ (10 ∷ [])) ≡ judged_tally L s
unfolding judged_tally
judged-newline L s w = ap (judged_rows L (λ i. true)) (back-newline L s w)

-- a text without its last byte, and the whole, where that byte is a 10
front-judged : (L : ℕ) (t : List ℕ) → 1 ≤ L → (t ≡ []) ⊎ EndsLine t → judged_tally L (take (length t - 1) t) ≡ judged_tally L t
front-judged L t w x = ⊎_elim (λ e. rw e) ends x
  where
    ends : EndsLine t → judged_tally L (take (length t - 1) t) ≡ judged_tally L t
    ends y =
        let n : length y.front ≡ length t - 1 = rw (y.whole, length-append) (omega arith) in
        let e : take (length t - 1) t ≡ y.front = ap (take (length t - 1)) y.whole ∙ take_at y.front (10 ∷ []) (length t - 1) n in
        ap (judged_tally L) e ∙ sym (judged-newline L y.front w) ∙ ap (judged_tally L) (sym y.whole)

-- Minimised text without its last byte has the judged tally of the whole.
pub judged-last : (L : ℕ) (text : List ℕ) → 1 ≤ L
    → judged_tally L (take (length (minimised_text L text) - 1) (minimised_text L text)) ≡ judged_tally L (minimised_text L text)
judged-last L text w = front-judged L (minimised_text L text) w (text-ends L text)
