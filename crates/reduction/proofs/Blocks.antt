-- Laws of rows at equal distances: the rows at the multiples of s are the rows s times as far apart.
use mathlib.Core.Path.{◌≡◌, refl, ap, sym, ◌∙◌}
use mathlib.Core.List.{List, [], ◌∷◌, ◌++◌, map, append_assoc, append-nil}
use Prim.Native.Nat.{ℕ, zero, suc, ◌+◌, ◌*◌, ◌%◌, ◌/◌, ◌≤◌, ◌<◌}
use native.Mathlib.Nat.{zero-mul, suc-mul, add_comm, zero-add, suc-add, zero-mod, div-mul_cancel, dvd_of_mod-eq-zero}
use native.Mathlib.Omega.{arith}
use lib.ListN.{length, take, drop, length-drop, length-append}
use lib.Seq.{drop-drop, take-take, take-add, length-take-le}
use Rattle.definitions.specs.Lists.{joined}
use Rattle.definitions.specs.Lines.{Row}
use Rattle.definitions.specs.Reduction.{at_multiples}
use Rattle.reduction.specs.Rows.{rows_at}
use Rattle.reduction.proofs.RowsAt.{rows-length}
use Rattle.reduction.proofs.Multiples.{at-append, at-period, at-between}

pub rows-add : (w L a b : ℕ) (t : List ℕ) → rows_at w L (a + b) t ≡ rows_at w L a t ++ rows_at w L b (drop (a * w) t)
rows-add w L zero b t = rw (zero-add, zero-mul)
rows-add w L (suc a) b t =
    rw (suc-add, suc-mul, add_comm (a * w) w, ← drop-drop (a * w) w t) (ap (λ (l : List Row). take L t ∷ l) (rows-add w L a b (drop w t)))

-- the rows are the first bytes of the blocks
pub rows-of-blocks : (w L n : ℕ) (t : List ℕ) → L ≤ w → rows_at w L n t ≡ map (take L) (rows_at w w n t)
rows-of-blocks w L zero t h = refl
rows-of-blocks w L (suc n) t h = rw (take-take L w t h, rows-of-blocks w L n (drop w t) h)

-- the blocks one after the other are the text
pub blocks-joined : (w n : ℕ) (t : List ℕ) → joined (rows_at w w n t) ≡ take (n * w) t
blocks-joined w zero t = rw (zero-mul)
blocks-joined w (suc n) t = rw (suc-mul, add_comm (n * w) w, take-add w (n * w) t, blocks-joined w n (drop w t))

multiples-next : (w L s n : ℕ) (t : List ℕ) → at_multiples (suc s) 0 (rows_at w L (n * suc s) t) ≡ rows_at (suc s * w) L n t
multiples-next w L s zero t = rw (zero-mul)
multiples-next w L s (suc n) t =
    ap (λ (m : ℕ). at_multiples (suc s) 0 (rows_at w L m t)) (suc-mul n (suc s) ∙ add_comm (n * suc s) (suc s))
    ∙ ap (at_multiples (suc s) 0) (rows-add w L (suc s) (n * suc s) t)
    ∙ at-append (suc s) 0 (rows_at w L (suc s) t) rest
    ∙ ap (λ (l : List Row). l ++ at_multiples (suc s) (0 + length (rows_at w L (suc s) t)) rest) first
    ∙ ap (λ (m : ℕ). take L t ∷ at_multiples (suc s) (0 + m) rest) (rows-length w L (suc s) t)
    ∙ ap (λ (l : List Row). take L t ∷ l) (at-period (suc s) 0 rest ∙ multiples-next w L s n (drop (suc s * w) t))
  where
    rest : List Row
    rest = rows_at w L (n * suc s) (drop (suc s * w) t)

    first : at_multiples (suc s) 0 (rows_at w L (suc s) t) ≡ take L t ∷ []
    first = rw (zero-mod (suc s), at-between (suc s) 1 (rows_at w L s (drop w t)) (omega arith) (rw (rows-length w L s (drop w t)) (omega arith)))

-- the rows at the multiples of s, of n times s rows
pub multiples-apart : (w L s n : ℕ) (t : List ℕ) → 0 < s → at_multiples s 0 (rows_at w L (n * s) t) ≡ rows_at (s * w) L n t
multiples-apart w L zero n t h = absurd (omega arith)
multiples-apart w L (suc s) n t h = multiples-next w L s n t

-- n blocks of w bytes that all lie within the text
pub apart-length : (d w n : ℕ) (t : List ℕ) → w ≤ d → n * d ≤ length t → length (joined (rows_at d w n t)) ≡ n * w
apart-length d w zero t h l = rw (zero-mul)
apart-length d w (suc n) t h l =
    let room : n * d + d ≤ length t = rw (suc-mul) at l in
    let low : w ≤ length t = omega arith in
    rw (length-append, length-take-le w t low, apart-length d w n (drop d t) h (rw (length-drop) (omega arith)), suc-mul) (add_comm w (n * w))

pub joined-append : (xs ys : List Row) → joined (xs ++ ys) ≡ joined xs ++ joined ys
joined-append [] ys = refl
joined-append (x ∷ xs) ys = rw (joined-append xs ys, append_assoc)

-- one block more
pub apart_more : (d w n : ℕ) (t : List ℕ) → joined (rows_at d w (n + 1) t) ≡ joined (rows_at d w n t) ++ take w (drop (n * d) t)
apart_more d w n t = rw (rows-add d w n 1 t, joined-append, append-nil)

-- how many rows stay where s divides their count
pub multiples-length : (w L n s : ℕ) (t : List ℕ) → 0 < s → n % s ≡ 0 → length (at_multiples s 0 (rows_at w L n t)) ≡ n / s
multiples-length w L n s t p d =
    ap (λ (k : ℕ). length (at_multiples s 0 (rows_at w L k t))) (sym (div-mul_cancel s (dvd_of_mod-eq-zero s d)))
    ∙ ap length (multiples-apart w L s (n / s) t p)
    ∙ rows-length (s * w) L (n / s) t
