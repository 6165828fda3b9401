-- The rows of a text, one by one.
use mathlib.Core.Path.{◌≡◌, refl, ap, sym, ◌∙◌}
use mathlib.Core.List.{List, []}
use Prim.Native.Nat.{ℕ, zero, suc, ◌+◌, ◌-◌, ◌*◌, ◌<◌}
use native.Mathlib.Nat.{suc-mul, zero-mul, add_comm}
use native.Mathlib.Omega.{arith}
use lib.ListN.{length, take, drop, get_or}
use lib.Seq.{drop-drop}
use Rattle.reduction.specs.Rows.{rows_at}

pub rows-length : (w L n : ℕ) (t : List ℕ) → length (rows_at w L n t) ≡ n
rows-length w L zero t = refl
rows-length w L (suc n) t = ap suc (rows-length w L n (drop w t))

pub rows_get : (w L n : ℕ) (t : List ℕ) (k : ℕ) → k < n → get_or (rows_at w L n t) k [] ≡ take L (drop (k * w) t)
rows_get w L zero t k h = absurd (omega arith)
rows_get w L (suc n) t zero h = rw (zero-mul w)
rows_get w L (suc n) t (suc k) h =
    rows_get w L n (drop w t) k (omega arith)
    ∙ ap (take L) (drop-drop (k * w) w t ∙ ap (λ (m : ℕ). drop m t) (add_comm w (k * w) ∙ sym (suc-mul k w)))

-- a row as the part of the text that it is read from
pub row-part : (text : List ℕ) (start w L n k : ℕ) → k < n
    → get_or (rows_at w L n (drop start text)) k [] ≡ take (start + k * w + L - (start + k * w)) (drop (start + k * w) text)
row-part text start w L n k h =
    rows_get w L n (drop start text) k h
    ∙ ap (take L) (drop-drop (k * w) start text)
    ∙ ap (λ (m : ℕ). take m (drop (start + k * w) text)) len
  where
    len : L ≡ start + k * w + L - (start + k * w)
    len = omega arith
