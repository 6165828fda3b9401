-- The flat arrays hold the stacks of the definition: what a store into them does to the stack of its column and of any other.
use mathlib.Core.Path.{◌≡◌, refl, sym, ap, ap₂, ◌∙◌}
use mathlib.Core.Bool.{Bool, true, false, true≢false}
use mathlib.Core.List.{List, [], ◌∷◌}
use Prim.Native.Nat.{ℕ, zero, suc, ◌+◌, ◌*◌, ◌-◌, ◌≤◌, ◌<◌}
use native.Mathlib.Decide.{dec_lt, ℕ_discrete}
use native.Mathlib.Numerals.{add-one}
use native.Mathlib.Omega.{arith}
use borrow.Author.Tests.{lt-ltb, le-ltb}
use lib.ListN.{length, get_or, set, length-set}
use lib.Seq.{get_or-set_same, get_or-set_other}
use Rattle.definitions.specs.Tracker.{next_stack, paired}
use Rattle.definitions.specs.declared.DepthEffect.{DepthEffect}
use Rattle.definitions.specs.declared.DepthEffect.TheVariants.{Nothing, Blocks, Opens, Closes}
use Rattle.holds.specs.Stacks.{stack_at, stack_of, Sized, TrackReady, TrackStepped}
use Rattle.holds.specs.declared.Tracker.{Tracker}
use Rattle.taps.specs.Taps.{FreeAre, Marked}
use Rattle.taps.proofs.Marks.{free-marked}

pub stack-length : (t : Tracker) (c : ℕ) → length (stack_of t c) ≡ get_or t.depths c 0
unfolding stack_of
stack-length t c = go (get_or t.depths c 0)
  where
    go : (d : ℕ) → length (stack_at t.heads c d) ≡ d
    go zero = refl
    go (suc d) = ap suc (go d)

-- a store at a place that is none of the first d of column c
stack_set : (hs : List ℕ) (c d p v : ℕ) → ((k : ℕ) → k < d → 8 * c + k ≡ p → ⊥) → stack_at (set hs p v) c d ≡ stack_at hs c d
stack_set hs c zero p v n = refl
stack_set hs c (suc d) p v n =
    ap₂ (λ (x : ℕ) (xs : List ℕ). x ∷ xs)
    (get_or-set_other hs p (8 * c + d) v 0 (n d (omega arith)))
    (stack_set hs c d p v (λ k h. n k (omega arith)))

-- columns have no place in common
apart : (c d x y : ℕ) → (d ≡ c → ⊥) → x < 8 → y < 8 → 8 * d + y ≡ 8 * c + x → ⊥
apart c d x y n hx hy e =
    elim (dec_lt c d) [ yes p ↦ omega arith | no p ↦ elim (dec_lt d c) [ yes q ↦ omega arith | no q ↦ n (omega arith) ] ]

pub no-depth : (t : Tracker) (c : ℕ) → get_or t.depths c 0 ≡ 0 → stack_of t c ≡ []
unfolding stack_of
no-depth t c z = rw z

module _ {t : Tracker} {c : ℕ} (r : TrackReady c t) where
  -- another depth of column c, and another mask of the busy columns
  module _ (busy n : ℕ) where
    abbrev Set : Tracker
    Set = record t { depths = set t.depths c n; busy = busy }

    depth_same : stack_of Set c ≡ stack_at t.heads c n
    unfolding stack_of
    depth_same = ap (stack_at t.heads c) (get_or-set_same t.depths c n 0 (omega arith))

    depth-sized : Sized Set
    depth-sized = record { wide = r.sized.wide; deep = length-set t.depths c n ∙ r.sized.deep }

    depth-other : (d : ℕ) → (d ≡ c → ⊥) → stack_of Set d ≡ stack_of t d
    unfolding stack_of
    depth-other d ne = ap (stack_at t.heads d) (get_or-set_other t.depths c d n 0 ne)

    -- where no head is left, the column is no more busy
    busy-marked : (used : Bool) → Marked t.busy c used busy → (used ≡ false → n ≡ 0) → FreeAre t.busy 0 t.depths → FreeAre busy 0 (set t.depths c n)
    busy-marked used m z f =
        free-marked t.busy c busy used 0 t.depths (set t.depths c n) m (λ e. get_or-set_same t.depths c n 0 (omega arith) ∙ z e)
        (λ d ne. get_or-set_other t.depths c d n 0 ne) f

  -- a cell that leaves its stack and pairs with none: one that does nothing, and one that blocks where no head is open
  step-same : (e : DepthEffect) (row : ℕ) → next_stack e row (stack_of t c) ≡ stack_of t c → paired e row (stack_of t c) ≡ [] → TrackStepped e row c t t []
  step-same e row same none = record { stack = sym same; pairs = sym none; sized = r.sized; others = λ d k ne. refl; busy = λ f. f }

  pub step-nothing : (row : ℕ) → TrackStepped Nothing row c t t []
  step-nothing row = step-same Nothing row refl refl

  pub step-clear : (row : ℕ) → get_or t.depths c 0 ≡ 0 → TrackStepped Blocks row c t t []
  step-clear row z = step-same Blocks row (sym (no-depth t c z)) refl

  -- a cell that blocks
  pub step-blocks : (busy row : ℕ) → Marked t.busy c false busy → TrackStepped Blocks row c t (Set busy 0) []
  step-blocks busy row m =
      record {
        stack = depth_same busy 0;
        pairs = refl;
        sized = depth-sized busy 0;
        others = λ d k ne. depth-other busy 0 d ne;
        busy = busy-marked busy 0 false m (λ e. refl);
      }

  -- a head, where there is room for it and where there is none
  pub step-opens : (busy row : ℕ) → Marked t.busy c true busy → get_or t.depths c 0 < 8
      → TrackStepped Opens row c t
      (record t { heads = set t.heads (8 * c + get_or t.depths c 0) row; depths = set t.depths c (get_or t.depths c 0 + 1); busy = busy }) []
  unfolding stack_of
  step-opens busy row m h =
      let wide = r.sized.wide in
      let place = 8 * c + get_or t.depths c 0 in
      record {
        stack =
            ap (stack_at (set t.heads place row) c) (get_or-set_same t.depths c (get_or t.depths c 0 + 1) 0 (omega arith) ∙ add-one (get_or t.depths c 0))
            ∙ ap₂ (λ (x : ℕ) (xs : List ℕ). x ∷ xs)
            (get_or-set_same t.heads place row 0 (omega arith))
            (stack_set t.heads c (get_or t.depths c 0) place row (λ k m e. omega arith))
            ∙ sym (rw (stack-length t c, lt-ltb (get_or t.depths c 0) 8 h));
        pairs = refl;
        sized = record { wide = length-set t.heads place row ∙ r.sized.wide; deep = (depth-sized busy (get_or t.depths c 0 + 1)).deep };
        others =
            λ d k ne.
            ap (stack_at (set t.heads place row) d) (get_or-set_other t.depths c d (get_or t.depths c 0 + 1) 0 ne)
            ∙ stack_set t.heads d (get_or t.depths d 0) place row (λ j m e. apart c d (get_or t.depths c 0) j ne h (omega (arith, r.low d k)) e);
        busy = busy-marked busy (get_or t.depths c 0 + 1) true m (λ e. absurd (true≢false e));
      }

  pub step-full : (row : ℕ) → 8 ≤ get_or t.depths c 0 → TrackStepped Opens row c t t []
  step-full row h = step-same Opens row (rw (stack-length t c, le-ltb (get_or t.depths c 0) 8 h)) refl

  -- a tail, where a head is open and where none is
  abbrev BusyAfter : ℕ → Type 0
  BusyAfter busy = FreeAre t.busy 0 t.depths → FreeAre busy 0 (set t.depths c (get_or t.depths c 0 - 1))

  pub busy-closed : (busy : ℕ) → 0 < get_or t.depths c 0 → (get_or t.depths c 0 ≡ 1 → Marked t.busy c false busy) → ((get_or t.depths c 0 ≡ 1 → ⊥) → busy ≡ t.busy) → BusyAfter busy
  busy-closed busy h last more =
      elim (ℕ_discrete (get_or t.depths c 0) 1) [
        | yes e ↦ busy-marked busy (get_or t.depths c 0 - 1) false (last e) (λ q. omega arith)
        | no ne ↦ rw (more ne) (λ f d k e.
            let other : (d ≡ c → ⊥) = λ q. let z : get_or t.depths c 0 ≡ 0 = rw q at (f d k e) in omega arith in
            get_or-set_other t.depths c d _ 0 other ∙ f d k e)
      ]

  pub step-closes : (busy row at : ℕ) → BusyAfter busy → 0 < get_or t.depths c 0 → at ≡ 8 * c + get_or t.depths c 0 - 1
      → TrackStepped Closes row c t (Set busy (get_or t.depths c 0 - 1)) (record { head = get_or t.heads at 0; tail = row } ∷ [])
  unfolding stack_of
  step-closes busy row at b h e =
      let shown : stack_at t.heads c (get_or t.depths c 0) ≡ get_or t.heads at 0 ∷ stack_at t.heads c (get_or t.depths c 0 - 1) = top (get_or t.depths c 0) h e in
      record {
        stack = depth_same busy (get_or t.depths c 0 - 1) ∙ sym (rw shown);
        pairs = sym (rw shown);
        sized = depth-sized busy (get_or t.depths c 0 - 1);
        others = λ d k ne. depth-other busy (get_or t.depths c 0 - 1) d ne;
        busy = b;
      }
    where
      top : (n : ℕ) → 0 < n → at ≡ 8 * c + n - 1 → stack_at t.heads c n ≡ get_or t.heads at 0 ∷ stack_at t.heads c (n - 1)
      top zero h e = absurd (omega arith)
      top (suc n) h e = let p : at ≡ 8 * c + n = omega arith in let q : suc n - 1 ≡ n = omega arith in rw (p, q)

  pub step-none : (row : ℕ) → get_or t.depths c 0 ≡ 0 → TrackStepped Closes row c t t []
  step-none row z = let empty = no-depth t c z in step-same Closes row (rw empty) (rw empty)
