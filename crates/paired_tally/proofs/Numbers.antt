-- The open heads by their numbers: one row more, the rows that they stand for, and that they are heads.
use mathlib.Core.Path.{◌≡◌, refl, sym, ap, ◌∙◌}
use mathlib.Core.Bool.{Bool, true, false, cond}
use mathlib.Core.List.{List, [], ◌∷◌, ◌++◌, map}
use Prim.Native.Nat.{ℕ, suc, ◌+◌, ◌/◌, ◌≤◌, ◌<◌}
use native.Mathlib.Nat.{zero-add, add-zero, add-suc, suc-add}
use native.Mathlib.Omega.{arith}
use lib.Dec.{eqb, ltb}
use lib.ListN.{length, get_or}
use Rattle.std.proofs.lemmas.List.{length-map}
use Rattle.definitions.specs.Lines.{Row}
use Rattle.definitions.specs.Cells.{byte_at}
use Rattle.definitions.specs.Tracker.{next_stack, hold_at}
use Rattle.definitions.specs.declared.DepthEffect.{DepthEffect}
use Rattle.definitions.specs.declared.DepthEffect.TheVariants.{Nothing, Blocks, Opens, Closes}
use Rattle.definitions.proofs.Lists.{All, none, one-le}
use Rattle.holds.specs.Tracks.{stack_from, stack_after}
use Rattle.holds.proofs.Pairs.{stacked, all-next}
use Rattle.paired_tally.specs.Paired.{head_number, numbers_from, numbers_after}

-- ---- One row more
from-snoc : (c i : ℕ) (st : List ℕ) (rs : List Row) (r : Row)
    → numbers_from c i st (rs ++ (r ∷ [])) ≡ next_stack (hold_at (byte_at c r)) (head_number (i + length rs) (byte_at c r)) (numbers_from c i st rs)
from-snoc c i st [] r = rw add-zero
from-snoc c i st (q ∷ rs) r = rw (add-suc, ← suc-add) (from-snoc c (suc i) (next_stack (hold_at (byte_at c q)) (head_number i (byte_at c q)) st) rs r)

pub numbers_snoc : (rows : List Row) (r : Row) (c : ℕ)
    → numbers_after (rows ++ (r ∷ [])) c ≡ next_stack (hold_at (byte_at c r)) (head_number (length rows) (byte_at c r)) (numbers_after rows c)
unfolding numbers_after
numbers_snoc rows r c = rw zero-add at (from-snoc c 0 [] rows r)

-- ---- The rows of the numbers
abbrev pub half : ℕ → ℕ
half v = v / 2

abbrev pub halves : List ℕ → List ℕ
halves st = map half st

pub half-number : (i b : ℕ) → half (head_number i b) ≡ i
half-number i b = omega (arith, one-le (eqb b 52))

next-halves : (e : DepthEffect) (i b : ℕ) (st : List ℕ) → halves (next_stack e (head_number i b) st) ≡ next_stack e i (halves st)
next-halves Nothing i b st = refl
next-halves Blocks i b st = refl
next-halves Opens i b st = rw (length-map st half) (go (ltb (length st) 8))
  where
    go : (t : Bool) → halves (cond t (head_number i b ∷ st) st) ≡ cond t (i ∷ halves st) (halves st)
    go true = ap (λ x. x ∷ halves st) (half-number i b)
    go false = refl
next-halves Closes i b [] = refl
next-halves Closes i b (x ∷ st) = refl

from-halves : (c i : ℕ) (st : List ℕ) (rs : List Row) → halves (numbers_from c i st rs) ≡ stack_from c i (halves st) rs
from-halves c i st [] = refl
from-halves c i st (r ∷ rs) =
    from-halves c (suc i) (next_stack (hold_at (byte_at c r)) (head_number i (byte_at c r)) st) rs
    ∙ ap (λ s. stack_from c (suc i) s rs) (next-halves (hold_at (byte_at c r)) i (byte_at c r) st)

pub numbers-halves : (rows : List Row) (c : ℕ) → halves (numbers_after rows c) ≡ stack_after rows c
unfolding numbers_after stack_after
numbers-halves rows c = from-halves c 0 [] rows

pub numbers-few : (rows : List Row) (c : ℕ) → length (numbers_after rows c) ≤ 8
numbers-few rows c =
    let e : length (numbers_after rows c) ≡ length (stack_after rows c) = sym (length-map (numbers_after rows c) half) ∙ ap length (numbers-halves rows c) in
    omega (arith, (stacked rows c).few)

-- ---- They are heads
module _ (c : ℕ) (at : ℕ → Row) where
  pub record Told (v : ℕ) : Type 0 where
    pub number : v ≡ head_number (half v) (byte_at c (at (half v)))
    pub opens : hold_at (byte_at c (at (half v))) ≡ Opens

  told-new : (i : ℕ) → hold_at (byte_at c (at i)) ≡ Opens → Told (head_number i (byte_at c (at i)))
  told-new i o =
      let e = half-number i (byte_at c (at i)) in
      record { number = sym (ap (λ k. head_number k (byte_at c (at k))) e); opens = ap (λ k. hold_at (byte_at c (at k))) e ∙ o }

  told-from : (i : ℕ) (st : List ℕ) (rs : List Row) → ((k : ℕ) → k < length rs → at (i + k) ≡ get_or rs k []) → All Told st
      → All Told (numbers_from c i st rs)
  told-from i st [] f a = a
  told-from i st (r ∷ rs) f a =
      let here : at i ≡ r = let z : i + 0 ≡ i = omega arith in rw z at (f 0 (omega arith)) in
      told-from (suc i) (next_stack (hold_at (byte_at c r)) (head_number i (byte_at c r)) st) rs
      (λ k h. let z : i + suc k ≡ suc i + k = omega arith in rw z at (f (suc k) (omega arith)))
      (rw here at (all-next (hold_at (byte_at c (at i))) (head_number i (byte_at c (at i))) st (told-new i) a))

pub numbers-told : (rows : List Row) (c : ℕ) → All (Told c (λ k. get_or rows k [])) (numbers_after rows c)
unfolding numbers_after
numbers-told rows c = told-from c (λ k. get_or rows k []) 0 [] rows (λ k l. ap (λ n. get_or rows n []) (zero-add k)) none
