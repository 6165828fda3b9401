-- A row and a byte after it, placed in a text.
use mathlib.Core.Path.{◌≡◌, ap, sym, ◌∙◌}
use mathlib.Core.List.{List, [], ◌∷◌, ◌++◌, append_assoc}
use Prim.Native.Nat.{ℕ, suc, ◌+◌, ◌<◌}
use native.Mathlib.Omega.{arith}
use lib.ListN.{length, take, drop, get_or, set, length-append}
use lib.Seq.{paste, take-length, length-take-le, drop-cons, set_at}
use Rattle.std.specs.List.{splice}
use Rattle.reduction.specs.Rows.{placed}

-- a part of a source pasted, in std's word
pub paste-spliced : (d : List ℕ) (at : ℕ) (s : List ℕ) (n : ℕ) → paste d at s n ≡ splice d at (at + n) (take n s)
paste-spliced d at s n = append_assoc (take at d) (take n s) (drop (at + n) d)

-- a whole source pasted is placed
pub paste-placed : (d : List ℕ) (at : ℕ) (s : List ℕ) → paste d at s (length s) ≡ placed at s d
paste-placed d at s = rw (take-length, append_assoc)

-- one byte after placed bytes
pub placed-byte : (d : List ℕ) (at : ℕ) (s : List ℕ) (b : ℕ) → at + length s < length d → set (placed at s d) (at + length s) b ≡ placed at (s ++ (b ∷ [])) d
placed-byte d at s b h =
    let front : length (take at d ++ s) ≡ at + length s = simp (length-append, length-take-le at d (omega arith)) in
    ap (λ l. set l (at + length s) b) (sym (append_assoc (take at d) s (drop (at + length s) d)) ∙ ap (λ l. (take at d ++ s) ++ l) (drop-cons d (at + length s) 0 h))
    ∙ set_at (take at d ++ s) (get_or d (at + length s) 0) (drop (suc (at + length s)) d) b (at + length s) front
    ∙ append_assoc (take at d) s (b ∷ drop (suc (at + length s)) d)
    ∙ ap (λ l. take at d ++ l) (sym (append_assoc s (b ∷ []) (drop (suc (at + length s)) d)) ∙ ap (λ n. (s ++ (b ∷ [])) ++ drop n d) place)
  where
    place : suc (at + length s) ≡ at + length (s ++ (b ∷ []))
    place = rw length-append (omega arith)
