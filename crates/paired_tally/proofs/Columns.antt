-- The last row gets another byte where a `0` stood: what becomes of the pairs and open heads of each column.
use mathlib.Core.Path.{◌≡◌, refl, sym, ap, ◌∙◌}
use mathlib.Core.Bool.{Bool, true, false, ◌||◌, ◌&&◌, or-false}
use mathlib.Core.List.{List, [], ◌∷◌, ◌++◌, append-nil}
use Prim.Native.Nat.{ℕ, zero, suc, ◌+◌, ◌≤◌, ◌<◌}
use native.Mathlib.Decide.{ℕ_discrete}
use native.Mathlib.Omega.{arith}
use borrow.Author.Tests.{eq-eqb, ne_eqb}
use lib.Dec.{eqb}
use lib.ListN.{length, get_or, set}
use lib.Seq.{get_or-set_same, get_or-set_other}
use Rattle.definitions.specs.Lists.{number_of_bool, sum_columns}
use Rattle.definitions.specs.Lines.{Row}
use Rattle.definitions.specs.Cells.{cell_of, byte_at}
use Rattle.definitions.specs.Tracker.{Pair, next_stack, paired, hold_at, pairs, is_head_of}
use Rattle.definitions.specs.declared.DepthEffect.TheVariants.{Nothing, Closes}
use Rattle.definitions.proofs.Lists.{All, none, one, any-default, count-append, count-cons}
use Rattle.holds.specs.Tracks.{stack_after, ends_in, ends_at}
use Rattle.holds.proofs.Pairs.{pairs-snoc, heads-append, Placed, placed, stacked}
use Rattle.holds.proofs.Ends.{ends-old, sum_same}
use Rattle.holds.proofs.Opens.{heads_in, once, head-count}
use Rattle.paired_tally.specs.Paired.{head_number, numbers_after}
use Rattle.paired_tally.proofs.Numbers.{numbers_snoc, numbers-halves, half, halves}
use Rattle.paired_tally.proofs.Keep.{SameBut, Same}

pub zero-nothing : hold_at 48 ≡ Nothing
unfolding hold_at cell_of
zero-nothing = refl

-- a row past the pairs heads none of them
pub head-late : (n i : ℕ) {ps : List Pair} → n ≤ i → All (Placed n) ps → is_head_of i ps ≡ false
head-late n i h none = refl
head-late n i h (one {a = p} {l = ps} q a) =
    let l = q.inside in
    let m = q.proper in
    ap (λ b. b || is_head_of i ps) (ne_eqb i p.head (λ e. omega arith)) ∙ head-late n i h a

-- a sum of which one term is larger
pub sum-one : (m k x : ℕ) (f g : ℕ → ℕ) → k < m → ((c : ℕ) → (c ≡ k → ⊥) → f c ≡ g c) → f k ≡ g k + x → sum_columns m f ≡ sum_columns m g + x
sum-one zero k x f g h o e = absurd (omega arith)
sum-one (suc m) k x f g h o e =
    elim (ℕ_discrete m k) [
      | yes q ↦
          let a = sum_same m f g (λ c l. o c (λ r. omega arith)) in
          let b : f m ≡ g m + x = rw q e in
          omega arith
      | no q ↦
          let a = sum-one m k x f g (omega arith) o e in
          let b = o m q in
          omega arith
    ]

-- a row has a `0` in column k
pub record ZeroAt (r : Row) (k : ℕ) : Type 0 where
  pub inside : k < length r
  pub zero_there : get_or r k 0 ≡ 48

module _ (rows : List Row) {r : Row} {k : ℕ} (b : ℕ) (z : ZeroAt r k) where
  abbrev Before : List Row
  Before = rows ++ (r ∷ [])

  abbrev After : List Row
  After = rows ++ (set r k b ∷ [])

  byte-before : byte_at k r ≡ 48
  byte-before = any-default r k 48 0 z.inside ∙ z.zero_there

  byte-after : byte_at k (set r k b) ≡ b
  byte-after = get_or-set_same r k b 48 z.inside

  byte-other : (c : ℕ) → (c ≡ k → ⊥) → byte_at c (set r k b) ≡ byte_at c r
  byte-other c ne = get_or-set_other r k c b 48 ne

  pub pairs-before : pairs Before k ≡ pairs rows k
  pairs-before =
      pairs-snoc rows r k
      ∙ ap (λ e. pairs rows k ++ paired e (length rows) (stack_after rows k)) (ap hold_at byte-before ∙ zero-nothing)
      ∙ append-nil (pairs rows k)

  pub pairs-after : pairs After k ≡ pairs rows k ++ paired (hold_at b) (length rows) (stack_after rows k)
  pairs-after =
      pairs-snoc rows (set r k b) k ∙ ap (λ x. pairs rows k ++ paired (hold_at x) (length rows) (stack_after rows k)) byte-after

  pub pairs-other : (c : ℕ) → (c ≡ k → ⊥) → pairs After c ≡ pairs Before c
  pairs-other c ne =
      pairs-snoc rows (set r k b) c
      ∙ ap (λ x. pairs rows c ++ paired (hold_at x) (length rows) (stack_after rows c)) (byte-other c ne)
      ∙ sym (pairs-snoc rows r c)

  pub numbers-before : numbers_after Before k ≡ numbers_after rows k
  numbers-before = numbers_snoc rows r k ∙ ap (λ e. next_stack e (head_number (length rows) (byte_at k r)) (numbers_after rows k)) (ap hold_at byte-before ∙ zero-nothing)

  pub numbers-after : numbers_after After k ≡ next_stack (hold_at b) (head_number (length rows) b) (numbers_after Before k)
  numbers-after =
      numbers_snoc rows (set r k b) k
      ∙ ap (λ x. next_stack (hold_at x) (head_number (length rows) x) (numbers_after rows k)) byte-after
      ∙ ap (next_stack (hold_at b) (head_number (length rows) b)) (sym numbers-before)

  pub numbers-other : (c : ℕ) → (c ≡ k → ⊥) → numbers_after After c ≡ numbers_after Before c
  numbers-other c ne =
      numbers_snoc rows (set r k b) c
      ∙ ap (λ x. next_stack (hold_at x) (head_number (length rows) x) (numbers_after rows c)) (byte-other c ne)
      ∙ sym (numbers_snoc rows r c)

  -- the ends of earlier rows are as before
  pub ends-earlier : (J : ℕ → Bool) (i : ℕ) → (i ≡ length rows → ⊥) → ends_at J After i ≡ ends_at J Before i
  ends-earlier J i ne = ends-old J rows (set r k b) i ne ∙ sym (ends-old J rows r i ne)

  -- ---- Nothing pairs
  module _ (no-pair : paired (hold_at b) (length rows) (stack_after rows k) ≡ []) where
    pub same-pairs : (c : ℕ) → pairs After c ≡ pairs Before c
    same-pairs c =
        elim (ℕ_discrete c k) [
          | yes e ↦ rw e (pairs-after ∙ ap (λ ps. pairs rows k ++ ps) no-pair ∙ append-nil (pairs rows k) ∙ sym pairs-before)
          | no ne ↦ pairs-other c ne
        ]

    pub same-heads : (i : ℕ) → Same (pairs Before) (pairs After) i
    same-heads i d = ap (is_head_of i) (same-pairs d)

    pub same-ends : (J : ℕ → Bool) (i : ℕ) → ends_at J After i ≡ ends_at J Before i
    unfolding ends_at
    same-ends J i = sum_same 10 (λ c. ends_in J i (pairs After c)) (λ c. ends_in J i (pairs Before c)) (λ c l. ap (ends_in J i) (same-pairs c))

    pub no-head : is_head_of (length rows) (pairs After k) ≡ false
    no-head = ap (is_head_of (length rows)) (same-pairs k ∙ pairs-before) ∙ head-late (length rows) (length rows) (omega arith) (placed rows k)

  -- ---- A pair ends
  module _ {h : ℕ} (one-pair : paired (hold_at b) (length rows) (stack_after rows k) ≡ record { head = h; tail = length rows } ∷ []) where
    pairs-more : pairs After k ≡ pairs rows k ++ (record { head = h; tail = length rows } ∷ [])
    pairs-more = pairs-after ∙ ap (λ ps. pairs rows k ++ ps) one-pair

    heads-more : (i : ℕ) → is_head_of i (pairs After k) ≡ (is_head_of i (pairs rows k) || (eqb i h || false))
    heads-more i = ap (is_head_of i) pairs-more ∙ heads-append i (pairs rows k) (record { head = h; tail = length rows } ∷ [])

    pub but-here : (i : ℕ) → SameBut (pairs Before) (pairs After) i k
    but-here i d ne = ap (is_head_of i) (pairs-other d ne)

    pub other-heads : (i : ℕ) → (i ≡ h → ⊥) → Same (pairs Before) (pairs After) i
    other-heads i ne d =
        elim (ℕ_discrete d k) [
          | yes e ↦
              rw e
              (heads-more i ∙ ap (λ x. is_head_of i (pairs rows k) || (x || false)) (ne_eqb i h ne) ∙ or-false (is_head_of i (pairs rows k))
              ∙ ap (is_head_of i) (sym pairs-before))
          | no q ↦ but-here i d q
        ]

    pub head-now : is_head_of h (pairs After k) ≡ true
    head-now = heads-more h ∙ ap (λ x. is_head_of h (pairs rows k) || (x || false)) (eq-eqb h h refl) ∙ or-true (is_head_of h (pairs rows k))
      where
        or-true : (x : Bool) → (x || true) ≡ true
        or-true true = refl
        or-true false = refl

    pub head-not_before : is_head_of h (pairs Before k) ≡ false
    head-not_before = ap (is_head_of h) pairs-before ∙ none_of (is_head_of h (pairs rows k)) (sym (head-count h (pairs rows k) (omega (arith, few))) ∙ few)
      where
        last : heads_in h (record { head = h; tail = length rows } ∷ []) ≡ 1
        last = count-cons (λ (p : Pair). eqb p.head h) (record { head = h; tail = length rows }) [] ∙ ap (λ x. number_of_bool x + 0) (eq-eqb h h refl)

        few : heads_in h (pairs rows k) ≡ 0
        few =
            let a = once After k h in
            let b : heads_in h (pairs After k) ≡ heads_in h (pairs rows k) + heads_in h (record { head = h; tail = length rows } ∷ []) =
            ap (heads_in h) pairs-more ∙ count-append (λ (p : Pair). eqb p.head h) (pairs rows k) (record { head = h; tail = length rows } ∷ []) in
            omega (arith, last)

        none_of : (x : Bool) → number_of_bool x ≡ 0 → x ≡ false
        none_of true e = absurd (omega arith)
        none_of false e = refl

    pub ends-more : (J : ℕ → Bool) → k < 10 → ends_at J After (length rows) ≡ ends_at J Before (length rows) + number_of_bool (J h)
    unfolding ends_at
    ends-more J low =
        sum-one 10 k (number_of_bool (J h)) (λ c. ends_in J (length rows) (pairs After c)) (λ c. ends_in J (length rows) (pairs Before c)) low
        (λ c ne. ap (ends_in J (length rows)) (pairs-other c ne))
        (ap (ends_in J (length rows)) pairs-more
        ∙ count-append (λ (p : Pair). eqb p.tail (length rows) && J p.head) (pairs rows k) (record { head = h; tail = length rows } ∷ [])
        ∙ ap (λ n. ends_in J (length rows) (pairs rows k) + n) last
        ∙ ap (λ ps. ends_in J (length rows) ps + number_of_bool (J h)) (sym pairs-before))
      where
        last : ends_in J (length rows) (record { head = h; tail = length rows } ∷ []) ≡ number_of_bool (J h)
        last =
            count-cons (λ (p : Pair). eqb p.tail (length rows) && J p.head) (record { head = h; tail = length rows }) []
            ∙ ap (λ x. number_of_bool (x && J h) + 0) (eq-eqb (length rows) (length rows) refl)
            ∙ plus (number_of_bool (J h))
          where
            plus : (n : ℕ) → n + 0 ≡ n
            plus n = omega arith

-- ---- The head of a number
module _ (rows : List Row) (k b : ℕ) {v : ℕ} {st : List ℕ} (closes : hold_at b ≡ Closes) (shown : numbers_after rows k ≡ v ∷ st) where
  stack-is : stack_after rows k ≡ half v ∷ halves st
  stack-is = sym (numbers-halves rows k) ∙ ap halves shown

  pub pair-is : paired (hold_at b) (length rows) (stack_after rows k) ≡ record { head = half v; tail = length rows } ∷ []
  pair-is = rw (closes, stack-is)

  pub head-earlier : half v < length rows
  head-earlier = go (rw stack-is at (stacked rows k).before)
    where
      go : All (λ h. h < length rows) (half v ∷ halves st) → half v < length rows
      go (one l a) = l
