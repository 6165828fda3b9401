-- The open holds of the judged tally, from row to row: what ends at a row goes, and what is headed there comes.
use mathlib.Core.Path.{◌≡◌, refl, ap, ap₂, sym, ◌∙◌}
use mathlib.Core.Bool.{Bool, true, false, cond, ◌&&◌, ◌||◌, and-false, and-true}
use mathlib.Core.List.{List, [], ◌∷◌}
use Prim.Native.Nat.{ℕ, zero, suc, ◌+◌, ◌*◌, ◌≤◌, ◌<◌}
use native.Mathlib.Decide.{dec_lt}
use native.Mathlib.Nat.{zero-add, mul-zero, mul-suc}
use native.Mathlib.Omega.{arith}
use borrow.Author.Tests.{lt-ltb, le-ltb, le-leb, lt-leb, eq-eqb, ne_eqb, eqb-true}
use lib.Dec.{eqb, ltb, leb}
use lib.ListN.{length}
use Rattle.definitions.proofs.Bools.{equal-turned}
use Rattle.std.specs.List.{count_by}
use Rattle.definitions.specs.Lists.{number_of_bool, sum_columns}
use Rattle.definitions.specs.Lines.{Row}
use Rattle.definitions.specs.Cells.{byte_at}
use Rattle.definitions.specs.Tracker.{Pair, next_stack, paired, hold_at, pairs_from, pairs, is_head_of}
use Rattle.definitions.specs.Judged.{open_of, open_before}
use Rattle.definitions.specs.declared.DepthEffect.{DepthEffect}
use Rattle.definitions.specs.declared.DepthEffect.TheVariants.{Nothing, Blocks, Opens, Closes}
use Rattle.definitions.proofs.Lists.{one-le, All, none, one, count-cons, count-append}
use Rattle.holds.specs.Tracks.{ends_in, ends_at, paired_heads}
use Rattle.holds.proofs.Pairs.{Placed, placed, pairs-narrow}
use Rattle.holds.proofs.Ends.{sum-beyond}

-- ---- At a row: whether a pair of a head before its tail is open there, ends there or is headed there
from-here : (i k : ℕ) → number_of_bool (eqb i k) + number_of_bool (leb (suc i) k) ≡ number_of_bool (leb i k)
from-here i k =
    elim (dec_lt i k) [
      | yes a ↦ simp (ne_eqb i k (λ e. omega arith), le-leb (suc i) k (omega arith), le-leb i k (omega arith))
      | no a ↦
          elim (dec_lt k i) [
            | yes b ↦ simp (ne_eqb i k (λ e. omega arith), lt-leb (suc i) k (omega arith), lt-leb i k b)
            | no b ↦ simp (eq-eqb i k (omega arith), lt-leb (suc i) k (omega arith), le-leb i k (omega arith))
          ]
    ]

open-part : (h t i : ℕ) → h < t → number_of_bool (ltb h i && leb i t) + number_of_bool (leb i h) ≡ number_of_bool (leb i t)
open-part h t i l =
    elim (dec_lt h i) [
      | yes a ↦ simp (lt-ltb h i a, lt-leb i h a) (omega arith)
      | no a ↦ simp (le-ltb h i (omega arith), le-leb i h (omega arith), le-leb i t (omega arith))
    ]

one-pair : (j : Bool) (h t i : ℕ) → h < t
    → number_of_bool (j && (ltb h (suc i) && leb (suc i) t)) + number_of_bool (eqb t i && j) ≡ number_of_bool (j && (ltb h i && leb i t)) + number_of_bool (j && eqb h i)
one-pair false h t i l = rw (and-false (eqb t i))
one-pair true h t i l =
    rw (and-true (eqb t i), equal-turned t i, equal-turned h i)
    (omega (arith, open-part h t i l, open-part h t (suc i) l, from-here i h, from-here i t))

-- the pairs whose head is at row i, and of these the judged ones
abbrev pub heads_in : ℕ → List Pair → ℕ
heads_in i ps = count_by (λ (p : Pair). eqb p.head i) ps

abbrev judged_in : (ℕ → Bool) → ℕ → List Pair → ℕ
judged_in J i ps = count_by (λ (p : Pair). J p.head && eqb p.head i) ps

open_step : (J : ℕ → Bool) (i n : ℕ) {ps : List Pair} → All (Placed n) ps
    → open_of J (suc i) ps + ends_in J i ps ≡ open_of J i ps + judged_in J i ps
open_step J i n none = refl
open_step J i n (one {a = p} {l = ps} h q) =
    let a = one-pair (J p.head) p.head p.tail i h.proper in
    let b = open_step J i n q in
    omega (
      arith,
      count-cons (λ (x : Pair). J x.head && (ltb x.head (suc i) && leb (suc i) x.tail)) p ps,
      count-cons (λ (x : Pair). eqb x.tail i && J x.head) p ps,
      count-cons (λ (x : Pair). J x.head && (ltb x.head i && leb i x.tail)) p ps,
      count-cons (λ (x : Pair). J x.head && eqb x.head i) p ps,
    )

-- ---- The pairs of a kind are few, where a row adds at most one to them and to the open heads that are yet to make one
module _ (f : Pair → Bool) (w : List ℕ → ℕ) (k : ℕ)
    (step : (e : DepthEffect) (i : ℕ) (st : List ℕ) → count_by f (paired e i st) + w (next_stack e i st) ≤ w st + number_of_bool (eqb i k)) where
  few-from : (c : ℕ) (rs : List Row) (i : ℕ) (st : List ℕ) → count_by f (pairs_from c i st rs) ≤ w st + number_of_bool (leb i k)
  few-from c [] i st = omega arith
  few-from c (r ∷ rs) i st =
      let next = next_stack (hold_at (byte_at c r)) i st in
      let a = count-append f (paired (hold_at (byte_at c r)) i st) (pairs_from c (suc i) next rs) in
      let b = few-from c rs (suc i) next in
      let d = step (hold_at (byte_at c r)) i st in
      let e = from-here i k in
      omega arith

-- ---- No head has two pairs
abbrev times : ℕ → List ℕ → ℕ
times k st = count_by (λ h. eqb h k) st

push-times : (b : Bool) (k i : ℕ) (st : List ℕ) → times k (cond b (i ∷ st) st) ≤ times k st + number_of_bool (eqb i k)
push-times true k i st = omega (arith, count-cons (λ h. eqb h k) i st)
push-times false k i st = omega arith

next-times : (e : DepthEffect) (k i : ℕ) (st : List ℕ) → heads_in k (paired e i st) + times k (next_stack e i st) ≤ times k st + number_of_bool (eqb i k)
next-times Nothing k i st = omega arith
next-times Blocks k i st = omega arith
next-times Opens k i st = omega (arith, push-times (ltb (length st) 8) k i st)
next-times Closes k i [] = omega arith
next-times Closes k i (h ∷ st) = omega (arith, count-cons (λ h. eqb h k) h st, count-cons (λ (p : Pair). eqb p.head k) (record { head = h; tail = i }) [])

pub once : (rows : List Row) (c k : ℕ) → heads_in k (pairs rows c) ≤ 1
unfolding pairs
once rows c k = let a = few-from (λ p. eqb p.head k) (times k) k (λ e i st. next-times e k i st) c rows 0 [] in let b = one-le (leb 0 k) in omega arith

-- ---- No row has two tails of a column
ends-here : (J : ℕ → Bool) (k : ℕ) (e : DepthEffect) (i : ℕ) (st : List ℕ) → ends_in J k (paired e i st) ≤ number_of_bool (eqb i k)
ends-here J k Nothing i st = omega arith
ends-here J k Blocks i st = omega arith
ends-here J k Opens i st = omega arith
ends-here J k Closes i [] = omega arith
ends-here J k Closes i (h ∷ st) = omega (arith, count-cons (λ (p : Pair). eqb p.tail k && J p.head) (record { head = h; tail = i }) [], both (eqb i k) (J h))
  where
    both : (a b : Bool) → number_of_bool (a && b) ≤ number_of_bool a
    both true b = one-le b
    both false b = omega arith

ends-columns : (J : ℕ → Bool) (rows : List Row) (i n : ℕ) → sum_columns n (λ c. ends_in J i (pairs rows c)) ≤ n
unfolding pairs
ends-columns J rows i zero = omega arith
ends-columns J rows i (suc n) = omega (arith, ends-columns J rows i n, few-from (λ p. eqb p.tail i && J p.head) (λ st. 0) i (λ e j st. omega (arith, ends-here J i e j st)) n rows 0 [], one-le (leb 0 i))

pub ends-few : (J : ℕ → Bool) (rows : List Row) (i : ℕ) → ends_at J rows i ≤ 10
unfolding ends_at
ends-few J rows i = ends-columns J rows i 10

-- so row i is a head as often as it is one
pub head-count : (i : ℕ) (ps : List Pair) → heads_in i ps ≤ 1 → heads_in i ps ≡ number_of_bool (is_head_of i ps)
head-count i [] h = refl
head-count i (p ∷ ps) h = go (equal-turned p.head i) (eqb i p.head) refl (head-count i ps (omega (arith, more)))
  where
    more : heads_in i (p ∷ ps) ≡ number_of_bool (eqb p.head i) + heads_in i ps
    more = count-cons (λ (x : Pair). eqb x.head i) p ps

    go : eqb p.head i ≡ eqb i p.head → (b : Bool) → eqb i p.head ≡ b → heads_in i ps ≡ number_of_bool (is_head_of i ps)
        → heads_in i (p ∷ ps) ≡ number_of_bool (b || is_head_of i ps)
    go f true e q = let a = ap number_of_bool (f ∙ e) in omega (arith, more)
    go f false e q = let a = ap number_of_bool (f ∙ e) in omega (arith, more)

cond-zero : (a : Bool) → ◌≡◌ {A = ℕ} (cond a 0 0) 0
cond-zero true = refl
cond-zero false = refl

-- where it is judged
judged-one : (J : ℕ → Bool) (h i : ℕ) (b : Bool) → eqb h i ≡ b → number_of_bool (J h && b) ≡ cond (J i) (number_of_bool b) 0
judged-one J h i true e = rw (eqb-true h i e) (last (J i))
  where
    last : (a : Bool) → number_of_bool (a && true) ≡ cond a 1 0
    last true = refl
    last false = refl
judged-one J h i false e = rw (and-false (J h)) (sym (cond-zero (J i)))

cond-add : (a : Bool) (x y : ℕ) → cond a x 0 + cond a y 0 ≡ cond a (x + y) 0
cond-add true x y = refl
cond-add false x y = refl

judged-count : (J : ℕ → Bool) (i : ℕ) (ps : List Pair) → judged_in J i ps ≡ cond (J i) (heads_in i ps) 0
judged-count J i [] = sym (cond-zero (J i))
judged-count J i (p ∷ ps) =
    count-cons (λ (x : Pair). J x.head && eqb x.head i) p ps
    ∙ ap₂ (λ (x y : ℕ). x + y) (judged-one J p.head i (eqb p.head i) refl) (judged-count J i ps)
    ∙ cond-add (J i) (number_of_bool (eqb p.head i)) (heads_in i ps)
    ∙ ap (λ n. cond (J i) n 0) (sym (count-cons (λ (x : Pair). eqb x.head i) p ps))

headed : (J : ℕ → Bool) (rows : List Row) (c i : ℕ) → judged_in J i (pairs rows c) ≡ cond (J i) (number_of_bool (is_head_of i (pairs rows c))) 0
headed J rows c i = judged-count J i (pairs rows c) ∙ ap (λ n. cond (J i) n 0) (head-count i (pairs rows c) (once rows c i))

-- ---- Over the columns
columns-step : (J : ℕ → Bool) (rows : List Row) (i L : ℕ)
    → sum_columns L (λ c. open_of J (suc i) (pairs rows c)) + sum_columns L (λ c. ends_in J i (pairs rows c))
    ≡ sum_columns L (λ c. open_of J i (pairs rows c)) + cond (J i) (paired_heads L (pairs rows) i) 0
columns-step J rows i zero = omega (arith, cond-zero (J i))
columns-step J rows i (suc L) =
    let a = columns-step J rows i L in
    let b = open_step J i (length rows) (placed rows L) in
    let d = headed J rows L i in
    let e = cond-add (J i) (paired_heads L (pairs rows) i) (number_of_bool (is_head_of i (pairs rows L))) in
    omega arith

-- rows of at most L cells have their ends in the first L columns
ends-narrow : (J : ℕ → Bool) (L : ℕ) (rows : List Row) (i : ℕ) → L ≤ 10 → All (λ r. length r ≤ L) rows
    → ends_at J rows i ≡ sum_columns L (λ c. ends_in J i (pairs rows c))
unfolding ends_at
ends-narrow J L rows i h a =
    sum-beyond L 10 (λ c. ends_in J i (pairs rows c)) h (λ c l. ap (ends_in J i) (pairs-narrow L c rows l a))

module _ (L : ℕ) (J : ℕ → Bool) (rows : List Row) where
  -- The holds open before a row are those open before the row before it, less what ended there, and with the judged heads of that row.
  pub opens : (i : ℕ) → L ≤ 10 → All (λ r. length r ≤ L) rows
      → open_before L J (pairs rows) (suc i) + ends_at J rows i
      ≡ open_before L J (pairs rows) i + cond (J i) (paired_heads L (pairs rows) i) 0
  unfolding open_before
  opens i h a = rw (ends-narrow J L rows i h a) (columns-step J rows i L)

  none_open : (ps : List Pair) → open_of J 0 ps ≡ 0
  none_open [] = refl
  none_open (p ∷ ps) = rw (le-ltb p.head 0 (omega arith), and-false (J p.head), zero-add) (none_open ps)

  -- none is open before the first row
  pub opens-start : open_before L J (pairs rows) 0 ≡ 0
  unfolding open_before
  opens-start = sum-beyond 0 L (λ c. open_of J 0 (pairs rows c)) (omega arith) (λ c h. none_open (pairs rows c))

-- a row has at most L heads, so at most L more are open after each row
pub heads-most : (L : ℕ) (ps : ℕ → List Pair) (i : ℕ) → paired_heads L ps i ≤ L
heads-most zero ps i = omega arith
heads-most (suc L) ps i = omega (arith, heads-most L ps i, one-le (is_head_of i (ps L)))

pub opens-most : (L : ℕ) (J : ℕ → Bool) (rows : List Row) → L ≤ 10 → All (λ r. length r ≤ L) rows → (i : ℕ) → open_before L J (pairs rows) i ≤ L * i
opens-most L J rows h a zero = omega (arith, opens-start L J rows, mul-zero L)
opens-most L J rows h a (suc i) =
    let e = opens L J rows i h a in
    omega (arith, opens-most L J rows h a i, mul-suc L i, at_most (J i) (paired_heads L (pairs rows) i), heads-most L (pairs rows) i)
  where
    at_most : (b : Bool) (n : ℕ) → cond b n 0 ≤ n
    at_most true n = omega arith
    at_most false n = omega arith
