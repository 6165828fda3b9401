-- The paired heads of a row are heads of that row: so they are what a tally counts as holds and rolls of the row that is counted anew.
use mathlib.Core.Path.{◌≡◌, refl, ap, ◌∙◌}
use mathlib.Core.Bool.{Bool, true, false, false≢true}
use mathlib.Core.List.{List, [], ◌∷◌}
use Prim.Native.Nat.{ℕ, zero, suc, ◌+◌, ◌<◌}
use native.Mathlib.Nat.{zero-add}
use native.Mathlib.Omega.{arith}
use borrow.Author.Tests.{eqb-true}
use lib.Dec.{eqb}
use lib.ListN.{length, get_or}
use Rattle.definitions.specs.Lists.{number_of_bool, sum_columns}
use Rattle.definitions.specs.Lines.{Row}
use Rattle.definitions.specs.Cells.{cell_of, byte_at, hold_effect, hold, roll}
use Rattle.definitions.specs.Tracker.{Pair, next_stack, hold_at, pairs_from, pairs, is_head_of}
use Rattle.definitions.specs.Tally.{counted_as, place, counted}
use Rattle.definitions.specs.Correction.{is_opening, head_if_paired, keep_row}
use Rattle.definitions.specs.declared.Cell.{Cell}
use Rattle.definitions.specs.declared.Cell.TheVariants as cell
use Rattle.definitions.specs.declared.DepthEffect.{DepthEffect}
use Rattle.definitions.specs.declared.DepthEffect.TheVariants.{Nothing, Blocks, Opens, Closes}
use Rattle.definitions.proofs.Lists.{All, none, one, all_append, count-cons}
use Rattle.holds.specs.Tracks.{paired_heads}
use Rattle.holds.proofs.Pairs.{all-next, all-paired}
use Rattle.holds.proofs.Ends.{sum_same}

module _ (c : ℕ) (at : ℕ → Row) where
  -- row h has a head in column c, where `at` says which row that is
  abbrev Heads : ℕ → Type 0
  Heads h = hold_at (byte_at c (at h)) ≡ Opens

  heads-from : (i : ℕ) (st : List ℕ) (rs : List Row) → ((k : ℕ) → k < length rs → at (i + k) ≡ get_or rs k []) → All Heads st
      → All (λ (p : Pair). Heads p.head) (pairs_from c i st rs)
  heads-from i st [] f a = none
  heads-from i st (r ∷ rs) f a =
      let here : at i ≡ r = let z : i + 0 ≡ i = omega arith in rw z at (f 0 (omega arith)) in
      all_append (all-paired (hold_at (byte_at c r)) i st (λ h q. q) a)
      (heads-from (suc i) (next_stack (hold_at (byte_at c r)) i st) rs
      (λ k h. let z : i + suc k ≡ suc i + k = omega arith in rw z at (f (suc k) (omega arith)))
      (all-next (hold_at (byte_at c r)) i st (λ e. rw here e) a))

head_in : (P : ℕ → Type 0) (i : ℕ) {ps : List Pair} → All (λ (p : Pair). P p.head) ps → is_head_of i ps ≡ true → P i
head_in P i none h = absurd (false≢true h)
head_in P i (one {a = p} {l = ps} q a) h = go (eqb i p.head) refl (head_in P i a)
  where
    go : (b : Bool) → eqb i p.head ≡ b → (is_head_of i ps ≡ true → P i) → P i
    go true e rest = rw (eqb-true i p.head e) q
    go false e rest = rest (rw e at h)

-- a paired head is a head
pub head-opens : (rows : List Row) (c i : ℕ) → is_head_of i (pairs rows c) ≡ true → hold_at (byte_at c (get_or rows i [])) ≡ Opens
unfolding pairs
head-opens rows c i h =
    head_in (λ k. hold_at (byte_at c (get_or rows k [])) ≡ Opens) i
    (heads-from c (λ k. get_or rows k []) 0 [] rows (λ k l. ap (λ n. get_or rows n []) (zero-add k)) none)
    h

-- ---- A row's paired heads
-- 1 where a byte is a head, 0 where it is none
abbrev heads_of : ℕ → ℕ
heads_of b = number_of_bool (eqb (place (counted_as (cell_of b))) (place hold)) + number_of_bool (eqb (place (counted_as (cell_of b))) (place roll))

effect-heads : (b : ℕ) → heads_of b ≡ number_of_bool (is_opening (hold_at b))
unfolding hold_at
effect-heads b = go (cell_of b)
  where
    go : (x : Cell)
        → number_of_bool (eqb (place (counted_as x)) (place hold)) + number_of_bool (eqb (place (counted_as x)) (place roll)) ≡ number_of_bool (is_opening (hold_effect x))
    go cell.Empty = refl
    go cell.Tap = refl
    go cell.Hold = refl
    go cell.Tail = refl
    go cell.Roll = refl
    go cell.Mine = refl
    go cell.Lift = refl
    go cell.Fake = refl
    go cell.KeySound = refl
    go cell.LowerMine = refl
    go cell.LowerLift = refl
    go cell.LowerFake = refl

empty-none : heads_of 48 ≡ 0
unfolding cell_of
empty-none = refl

-- a paired head is counted, and any other is not
paired-cell : (b : ℕ) (p : Bool) → (p ≡ true → hold_at b ≡ Opens) → heads_of (head_if_paired (hold_at b) p b) ≡ number_of_bool p
paired-cell b true h = rw (h refl) (effect-heads b ∙ ap (λ e. number_of_bool (is_opening e)) (h refl))
paired-cell b false h = go (hold_at b) (effect-heads b)
  where
    go : (e : DepthEffect) → heads_of b ≡ number_of_bool (is_opening e) → heads_of (head_if_paired e false b) ≡ 0
    go Nothing q = q
    go Blocks q = q
    go Opens q = empty-none
    go Closes q = q

sum-front : (n : ℕ) (f : ℕ → ℕ) → sum_columns (suc n) f ≡ f 0 + sum_columns n (λ c. f (suc c))
sum-front zero f = omega arith
sum-front (suc n) f = let e = sum-front n f in omega arith

paired-from : (ps : ℕ → List Pair) (i c : ℕ) (r : Row) → ((k : ℕ) → is_head_of i (ps (c + k)) ≡ true → hold_at (byte_at k r) ≡ Opens)
    → counted hold (keep_row ps i c r) + counted roll (keep_row ps i c r) ≡ sum_columns (length r) (λ k. number_of_bool (is_head_of i (ps (c + k))))
paired-from ps i c [] h = refl
paired-from ps i c (b ∷ r) h =
    let first : c + 0 ≡ c = omega arith in
    let here = paired-cell b (is_head_of i (ps c)) (λ e. h 0 (rw first e)) in
    let rest = paired-from ps i (suc c) r (λ k e. h (suc k) (rw (further k) e)) in
    let start : number_of_bool (is_head_of i (ps (c + 0))) ≡ number_of_bool (is_head_of i (ps c)) = rw first in
    let front = sum-front (length r) (λ k. number_of_bool (is_head_of i (ps (c + k)))) in
    let same =
    sum_same (length r) (λ k. number_of_bool (is_head_of i (ps (c + suc k)))) (λ k. number_of_bool (is_head_of i (ps (suc c + k))))
    (λ k l. ap (λ n. number_of_bool (is_head_of i (ps n))) (further k)) in
    let byte : ℕ = head_if_paired (hold_at b) (is_head_of i (ps c)) b in
    omega (
      arith,
      count-cons (λ x. eqb (place (counted_as (cell_of x))) 1) byte (keep_row ps i (suc c) r),
      count-cons (λ x. eqb (place (counted_as (cell_of x))) 2) byte (keep_row ps i (suc c) r),
    )
  where
    further : (k : ℕ) → c + suc k ≡ suc c + k
    further k = omega arith

-- What a tally counts as holds and rolls of the row that is counted anew is its paired heads.
pub counted-heads : (rows : List Row) (i : ℕ) (r : Row) → get_or rows i [] ≡ r
    → counted hold (keep_row (pairs rows) i 0 r) + counted roll (keep_row (pairs rows) i 0 r) ≡ paired_heads (length r) (pairs rows) i
counted-heads rows i r e =
    paired-from (pairs rows) i 0 r (λ k h. rw (← e) (head-opens rows k i (rw zero-add at h)))
    ∙ sum_same (length r) (λ k. number_of_bool (is_head_of i (pairs rows (0 + k)))) (λ k. number_of_bool (is_head_of i (pairs rows k)))
    (λ k l. ap (λ n. number_of_bool (is_head_of i (pairs rows n))) (zero-add k))
