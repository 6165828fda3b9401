-- A text cut into lines: its first line and those below it, and how many bytes they are.
use mathlib.Core.Path.{◌≡◌, refl, ap, ◌∙◌}
use mathlib.Core.Logic.{◌⊎◌, inl, inr}
use mathlib.Core.Bool.{Bool, true, false, cond}
use mathlib.Core.List.{List, [], ◌∷◌}
use Prim.Native.Nat.{ℕ, suc, ◌+◌, ◌<◌, ◌≤◌}
use native.Mathlib.Numerals.{add-one}
use native.Mathlib.Omega.{arith}
use lib.Dec.{eqb}
use lib.ListN.{length, take, drop, length-drop}
use lib.Seq.{length-take-le}
use Rattle.std.specs.List.{onto_first}
use Rattle.definitions.specs.Lists.{up_to, after}
use Rattle.definitions.specs.Lines.{cut}
use Rattle.definitions.proofs.Lists.{up_to-front, after-cons}
use Rattle.lines.specs.Lines.{first_line}

-- the first line is the text's front
pub line-front : (s : List ℕ) → first_line s ≡ take (length (first_line s)) s
unfolding first_line
line-front s = up_to-front 10 s

-- The lines below the first are those of the text after its newline; where it has none, there are none.
pub record Below (s : List ℕ) : Type 0 where
  pub below : List (List ℕ)
  pub is_cut : cut s ≡ first_line s ∷ below
  pub same : (below ≡ cut (after 10 s)) ⊎ ((below ≡ []) × (after 10 s ≡ []))

pub cut-below : (s : List ℕ) → Below s
unfolding first_line up_to after
cut-below [] = record { below = []; is_cut = refl; same = inr (refl, refl) }
cut-below (x ∷ s) = go (eqb x 10) refl (cut-below s)
  where
    go : (t : Bool) → eqb x 10 ≡ t → Below s → Below (x ∷ s)
    go true e b = record { below = cut s; is_cut = rw e; same = inl (rw (after-cons, e)) }
    go false e b = record { below = b.below; is_cut = rw (e, b.is_cut); same = rw (after-cons, e) b.same }

-- what follows a line of m bytes
pub after-line : (m : ℕ) (s : List ℕ) → m ≤ length s → first_line s ≡ take m s → after 10 s ≡ drop (m + 1) s
unfolding after first_line
after-line m s h e = rw add-one (ap (λ k. drop (suc k) s) (ap length e ∙ length-take-le m s h))

-- it is less than all of a text
pub after-less : (rest below : List ℕ) → 0 < length rest → below ≡ after 10 rest → length below < length rest
unfolding after
after-less rest below h e = rw (e, length-drop) (omega arith)

-- the lines' bytes, with a newline after each
abbrev pub lines_bytes : List (List ℕ) → ℕ
lines_bytes [] = 0
lines_bytes (l ∷ ls) = length l + 1 + lines_bytes ls

pub cut-bytes : (text : List ℕ) → lines_bytes (cut text) ≡ length text + 1
cut-bytes [] = omega arith
cut-bytes (b ∷ s) = go (eqb b 10) (cut-bytes s)
  where
    first : (ls : List (List ℕ)) (n : ℕ) → lines_bytes ls ≡ n + 1 → lines_bytes (onto_first b ls) ≡ suc n + 1
    first [] n h = absurd (omega arith)
    first (l ∷ ls) n h = omega arith

    go : (t : Bool) → lines_bytes (cut s) ≡ length s + 1 → lines_bytes (cond t ([] ∷ cut s) (onto_first b (cut s))) ≡ suc (length s) + 1
    go true h = omega arith
    go false h = first (cut s) (length s) h
