-- The pairs of the definition, one row more at the end; and where the heads and tails of stacks and pairs lie.
use mathlib.Core.Path.{◌≡◌, refl, sym, ap, ◌∙◌}
use mathlib.Core.Bool.{Bool, true, false, cond, ◌||◌, or_assoc}
use mathlib.Core.List.{List, [], ◌∷◌, ◌++◌, append_assoc, append-nil}
use Prim.Native.Nat.{ℕ, suc, ◌+◌, ◌≤◌, ◌<◌}
use native.Mathlib.Nat.{zero-add, add-zero, add-suc, suc-add}
use native.Mathlib.Omega.{arith}
use borrow.Author.Tests.{ltb-true}
use lib.Dec.{eqb, ltb}
use lib.ListN.{length}
use Rattle.definitions.proofs.Columns.{past_end}
use Rattle.std.specs.List.{count_by}
use Rattle.definitions.specs.Lines.{Row}
use Rattle.definitions.specs.Cells.{byte_at}
use Rattle.definitions.specs.Tracker.{Pair, next_stack, paired, hold_at, pairs_from, pairs, is_head_of}
use Rattle.definitions.specs.declared.DepthEffect.{DepthEffect}
use Rattle.definitions.specs.declared.DepthEffect.TheVariants.{Nothing, Blocks, Opens, Closes}
use Rattle.definitions.proofs.Lists.{All, none, one, all_append, all_map}
use Rattle.holds.specs.Tracks.{stack_from, stack_after}

-- ---- One row more
pairs-from-snoc : (c i : ℕ) (st : List ℕ) (rs : List Row) (r : Row)
    → pairs_from c i st (rs ++ (r ∷ [])) ≡ pairs_from c i st rs ++ paired (hold_at (byte_at c r)) (i + length rs) (stack_from c i st rs)
pairs-from-snoc c i st [] r = rw add-zero (append-nil (paired (hold_at (byte_at c r)) i st))
pairs-from-snoc c i st (q ∷ rs) r =
    let first = paired (hold_at (byte_at c q)) i st in
    let next = next_stack (hold_at (byte_at c q)) i st in
    rw (add-suc, ← suc-add)
    (ap (λ l. first ++ l) (pairs-from-snoc c (suc i) next rs r)
    ∙ sym (append_assoc first (pairs_from c (suc i) next rs) (paired (hold_at (byte_at c r)) (suc i + length rs) (stack_from c (suc i) next rs))))

pub pairs-snoc : (rows : List Row) (r : Row) (c : ℕ)
    → pairs (rows ++ (r ∷ [])) c ≡ pairs rows c ++ paired (hold_at (byte_at c r)) (length rows) (stack_after rows c)
unfolding pairs stack_after
pairs-snoc rows r c = rw zero-add at (pairs-from-snoc c 0 [] rows r)

-- ---- Heads and counts of two lists of pairs
pub heads-append : (i : ℕ) (ps qs : List Pair) → is_head_of i (ps ++ qs) ≡ (is_head_of i ps || is_head_of i qs)
heads-append i [] qs = refl
heads-append i (p ∷ ps) qs =
    ap (λ b. eqb i p.head || b) (heads-append i ps qs) ∙ sym (or_assoc (eqb i p.head) (is_head_of i ps) (is_head_of i qs))

pub count_none : {A : Type 0} (p : A → Bool) {l : List A} → All (λ a. p a ≡ false) l → count_by p l ≡ 0
count_none p none = refl
count_none p (one {a = a} h q) = rw (h, count_none p q)

-- ---- What holds of the open heads, and of a head that comes, holds of the open heads after a cell; and so of a pair what follows for it
pub all-next : {P : ℕ → Type 0} (e : DepthEffect) (i : ℕ) (st : List ℕ) → (e ≡ Opens → P i) → All P st → All P (next_stack e i st)
all-next Nothing i st h a = a
all-next Blocks i st h a = none
all-next {P} Opens i st h a = go (ltb (length st) 8)
  where
    go : (b : Bool) → All P (cond b (i ∷ st) st)
    go true = one (h refl) a
    go false = a
all-next Closes i [] h a = none
all-next Closes i (x ∷ st) h (one l a) = a

pub all-paired : {P : ℕ → Type 0} {Q : Pair → Type 0} (e : DepthEffect) (i : ℕ) (st : List ℕ) → ((h : ℕ) → P h → Q (record { head = h; tail = i })) → All P st → All Q (paired e i st)
all-paired Nothing i st f a = none
all-paired Blocks i st f a = none
all-paired Opens i st f a = none
all-paired Closes i [] f a = none
all-paired Closes i (x ∷ st) f (one l a) = one (f x l) none

-- ---- Where heads and tails lie
-- A stack before row i has at most eight heads, all before row i.
pub record Stacked (i : ℕ) (st : List ℕ) : Type 0 where
  pub few : length st ≤ 8
  pub before : All (λ h. h < i) st

-- a pair's head stands before its tail, and its tail before row n
pub record Placed (n : ℕ) (p : Pair) : Type 0 where
  pub proper : p.head < p.tail
  pub inside : p.tail < n

earlier : {i : ℕ} {st : List ℕ} → All (λ h. h < i) st → All (λ h. h < suc i) st
earlier {i} a = all_map (λ h (l : h < i). omega arith) a

few-next : (e : DepthEffect) (i : ℕ) (st : List ℕ) → length st ≤ 8 → length (next_stack e i st) ≤ 8
few-next Nothing i st h = h
few-next Blocks i st h = omega arith
few-next Opens i st h = go (ltb (length st) 8) refl
  where
    go : (b : Bool) → ltb (length st) 8 ≡ b → length (cond b (i ∷ st) st) ≤ 8
    go true e = let l = ltb-true (length st) 8 e in omega arith
    go false e = h
few-next Closes i [] h = omega arith
few-next Closes i (x ∷ st) h = omega arith

stacked-next : (e : DepthEffect) (i : ℕ) (st : List ℕ) → Stacked i st → Stacked (suc i) (next_stack e i st)
stacked-next e i st s = record { few = few-next e i st s.few; before = all-next e i st (λ o. omega arith) (earlier s.before) }

placed-next : (e : DepthEffect) (i : ℕ) (st : List ℕ) → Stacked i st → All (Placed (suc i)) (paired e i st)
placed-next e i st s = all-paired e i st (λ h (l : h < i). record { proper = l; inside = omega arith }) s.before

placed-more : {m n : ℕ} {ps : List Pair} → m ≤ n → All (Placed m) ps → All (Placed n) ps
placed-more {m} {n} h a = all_map (λ p (q : Placed m p). record { proper = q.proper; inside = let l = q.inside in omega arith }) a

module _ (c : ℕ) where
  stacked-from : (i : ℕ) (st : List ℕ) (rs : List Row) → Stacked i st → Stacked (i + length rs) (stack_from c i st rs)
  stacked-from i st [] s = let e : i + 0 ≡ i = omega arith in rw e s
  stacked-from i st (r ∷ rs) s =
      let e : i + suc (length rs) ≡ suc i + length rs = omega arith in
      rw e (stacked-from (suc i) (next_stack (hold_at (byte_at c r)) i st) rs (stacked-next (hold_at (byte_at c r)) i st s))

  placed-from : (i : ℕ) (st : List ℕ) (rs : List Row) → Stacked i st → All (Placed (i + length rs)) (pairs_from c i st rs)
  placed-from i st [] s = none
  placed-from i st (r ∷ rs) s =
      let e : i + suc (length rs) ≡ suc i + length rs = omega arith in
      all_append
      (placed-more (omega arith) (placed-next (hold_at (byte_at c r)) i st s))
      (rw e (placed-from (suc i) (next_stack (hold_at (byte_at c r)) i st) rs (stacked-next (hold_at (byte_at c r)) i st s)))

no-heads : Stacked 0 []
no-heads = record { few = omega arith; before = none }

pub stacked : (rows : List Row) (c : ℕ) → Stacked (length rows) (stack_after rows c)
unfolding stack_after
stacked rows c = rw zero-add at (stacked-from c 0 [] rows no-heads)

pub placed : (rows : List Row) (c : ℕ) → All (Placed (length rows)) (pairs rows c)
unfolding pairs
placed rows c = rw zero-add at (placed-from c 0 [] rows no-heads)

-- ---- Rows of at most L cells have no pairs past column L.
narrow-from : (L c i : ℕ) {rs : List Row} → L ≤ c → All (λ r. length r ≤ L) rs → pairs_from c i [] rs ≡ []
narrow-from L c i h none = refl
narrow-from L c i h (one {a = r} l a) = rw (past_end r c (omega arith)) (narrow-from L c (suc i) h a)

pub pairs-narrow : (L c : ℕ) (rows : List Row) → L ≤ c → All (λ r. length r ≤ L) rows → pairs rows c ≡ []
unfolding pairs
pairs-narrow L c rows h a = narrow-from L c 0 h a
