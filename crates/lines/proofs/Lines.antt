-- Laws of `first_line` and `lines_from`. A loop over the lines of a text starts by `lines_start`, takes a line by `lines_next` and stops by
-- `lines_end`; `line-within` says that the line taken lies in the text.
use Rattle.std.proofs.Common.{◌≡◌, ℕ, suc, ◌+◌, ◌<◌, ◌≤◌, Bool, true, false, cond, eqb, List, [], ◌∷◌, length, drop, refl, ap, ◌∙◌, add-one, arith, length-drop, drop_of_length-le, drop-cons, drop-drop, le-leb}
use native.Mathlib.Decide.{dec_lt}
use borrow.Author.Tests.{lt-leb}
use Rattle.definitions.specs.Lists.{up_to}
use Rattle.std.specs.List.{onto_first}
use Rattle.definitions.specs.Lines.{cut}
use Rattle.definitions.proofs.Lists.{up_to-short}
use Rattle.lines.specs.Lines.{first_line, lines_from}

-- the line at `off` ends within the text
pub line-within : (text : List ℕ) (off : ℕ) → off ≤ length text → length (first_line (drop off text)) + off ≤ length text
unfolding first_line
line-within text off h = omega (arith, up_to-short 10 (drop off text), length-drop off text)

-- what follows the first line: no line where the text is used up, else the lines past the newline
more : List ℕ → List (List ℕ)
more [] = []
more (x ∷ xs) = cut xs

cut_step : (x : ℕ) (xs : List ℕ) (t : Bool) → cut xs ≡ up_to 10 xs ∷ more (drop (length (up_to 10 xs)) xs)
    → cond t ([] ∷ cut xs) (onto_first x (cut xs)) ≡ cond t [] (x ∷ up_to 10 xs) ∷ more (drop (length (cond t [] (x ∷ up_to 10 xs))) (x ∷ xs))
unfolding more
cut_step x xs true ih = refl
cut_step x xs false ih = rw ih

cut-first : (l : List ℕ) → cut l ≡ up_to 10 l ∷ more (drop (length (up_to 10 l)) l)
unfolding up_to more
cut-first [] = refl
cut-first (x ∷ xs) = cut_step x xs (eqb x 10) (cut-first xs)

more-at : (text : List ℕ) (j : ℕ) → more (drop j text) ≡ lines_from text (j + 1)
unfolding more lines_from
more-at text j = elim (dec_lt j (length text)) [
  | yes h ↦ rw (add-one, drop-cons text j 0) (simp (le-leb (suc j) (length text) h))
  | no h ↦
      let past : length text ≤ j = omega arith in
      let far : length text < j + 1 = omega arith in
      rw (drop_of_length-le text past) (simp (lt-leb (j + 1) (length text) far))
]

-- the lines from the start on are all
pub lines_start : (text : List ℕ) → lines_from text 0 ≡ cut text
unfolding lines_from
lines_start text = simp (le-leb 0 (length text) (omega arith))

-- the line at `off`, and the lines from past its newline on
pub lines_next : (text : List ℕ) (off : ℕ) → off ≤ length text → lines_from text off ≡ first_line (drop off text) ∷ lines_from text (off + length (first_line (drop off text)) + 1)
unfolding lines_from first_line
lines_next text off h =
    simp (le-leb off (length text) h)
    (cut-first (drop off text) ∙ ap {B = List (List ℕ)} (λ ls. first_line (drop off text) ∷ ls) (rw drop-drop (more-at text _)))

-- past the text's end there are none
pub lines_end : (text : List ℕ) (off : ℕ) → length text < off → lines_from text off ≡ []
unfolding lines_from
lines_end text off h = simp (lt-leb off (length text) h)
