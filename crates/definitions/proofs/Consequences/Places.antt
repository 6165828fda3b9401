-- Lists that are the same at some places, and lists made from numbers.
use mathlib.Core.Path.{◌≡◌, refl, ap, ap₂, sym, ◌∙◌}
use mathlib.Core.Bool.{Bool, true, false}
use mathlib.Core.List.{List, [], ◌∷◌, map}
use Prim.Native.Nat.{ℕ, zero, suc, ◌+◌, ◌<◌}
use native.Mathlib.Nat.{add-zero, zero-add}
use native.Mathlib.Omega.{arith}
use lib.ListN.{length, take, drop, get_or}
use Rattle.std.specs.Prelude.{Option, Some, None, slice_get, find}
use Rattle.std.specs.List.{range_with_len, AllZip}

same_at : {B : Type 0} (f : ℕ → B) (i j : ℕ) → i ≡ j → f i ≡ f j
same_at f i j e = ap f e

module _ {A : Type 0} where
  pub some-same : {a b : A} → Some a ≡ Some b → a ≡ b
  some-same e = cc

  none-some : {C : Type 0} {a : A} → ◌≡◌ {A = Option A} None (Some a) → C
  none-some e = let z : ◌≡◌ {A = ℕ} 0 1 = cc in absurd (omega arith)

  -- what stands at a place is what is found there by any default
  pub got : (s : List A) (k : ℕ) (a d : A) → slice_get s k ≡ Some a → get_or s k d ≡ a
  got [] k a d e = none-some e
  got (x ∷ s) zero a d e = some-same e
  got (x ∷ s) (suc k) a d e = got s k a d e

  -- lists that are the same at every place
  pub all-places : (s t : List A) → ((i : ℕ) → slice_get s i ≡ slice_get t i) → s ≡ t
  all-places [] [] h = refl
  all-places [] (b ∷ t) h = none-some (h 0)
  all-places (a ∷ s) [] h = none-some (sym (h 0))
  all-places (a ∷ s) (b ∷ t) h = ap₂ (λ x l. x ∷ l) (some-same (h 0)) (all-places s t (λ i. h (suc i)))

  -- lists that are the same before place d, and after it
  pub before-place : (d : ℕ) (s t : List A) → ((i : ℕ) → i < d → slice_get s i ≡ slice_get t i) → take d s ≡ take d t
  before-place zero s t h = refl
  before-place (suc d) [] [] h = refl
  before-place (suc d) [] (b ∷ t) h = none-some (h 0 (omega arith))
  before-place (suc d) (a ∷ s) [] h = none-some (sym (h 0 (omega arith)))
  before-place (suc d) (a ∷ s) (b ∷ t) h = ap₂ (λ x l. x ∷ l) (some-same (h 0 (omega arith))) (before-place d s t (λ i l. h (suc i) (omega arith)))

  dropped : (n : ℕ) (s : List A) (i : ℕ) → slice_get (drop n s) i ≡ slice_get s (n + i)
  dropped zero s i = same_at (slice_get s) i (0 + i) (omega arith)
  dropped (suc n) [] i = refl
  dropped (suc n) (a ∷ s) i = dropped n s i ∙ same_at (slice_get (a ∷ s)) (suc (n + i)) (suc n + i) (omega arith)

  pub after-place : (d : ℕ) (s t : List A) → ((i : ℕ) → d < i → slice_get s i ≡ slice_get t i) → drop (suc d) s ≡ drop (suc d) t
  after-place d s t h = all-places (drop (suc d) s) (drop (suc d) t) (λ i. dropped (suc d) s i ∙ h (suc d + i) (omega arith) ∙ sym (dropped (suc d) t i))

-- f of each of the one list is g of what stands there in the other
pub each-same : {A B : Type 0} {R : A → A → Type 0} (f g : A → B) → ((x y : A) → R x y → f x ≡ g y) → (s t : List A) → AllZip R s t → map f s ≡ map g t
each-same f g h [] [] e = refl
each-same f g h [] (b ∷ t) e = absurd e
each-same f g h (a ∷ s) [] e = absurd e
each-same f g h (a ∷ s) (b ∷ t) e = ap₂ (λ y l. y ∷ l) (h a b e.0) (each-same f g h s t e.1)

-- what f makes of the places of a list is what g makes of what stands there
pub by-places : {A B : Type 0} (f : ℕ → B) (g : A → B) (s : List A) (a : ℕ)
    → ((k : ℕ) → k < length s → (x : A) × (slice_get s k ≡ Some x) × (f (a + k) ≡ g x))
    → map f (range_with_len a (length s)) ≡ map g s
by-places f g [] a h = refl
by-places f g (x ∷ s) a h =
    let first = h 0 (omega arith) in
    ap₂ (λ y l. y ∷ l) (ap f (sym (add-zero a)) ∙ first.2 ∙ ap g (sym (some-same first.1)))
    (by-places f g s (a + 1) (λ k l. let at = h (suc k) (omega arith) in (at.0, at.1, same_at f (a + 1 + k) (a + suc k) (omega arith) ∙ at.2)))

-- the first of the numbers from a on that passes a test, where it is the number a + n
first-from : (p : ℕ → Bool) (n a : ℕ) → ((k : ℕ) → k < n → p (a + k) ≡ false) → p (a + n) ≡ true
    → find p (range_with_len a (suc n)) ≡ Some (a + n)
first-from p zero a h e = rw (ap p (sym (add-zero a)) ∙ e, add-zero)
first-from p (suc n) a h e =
    rw (ap p (sym (add-zero a)) ∙ h 0 (omega arith))
    (first-from p n (a + 1) (λ k l. same_at p (a + 1 + k) (a + suc k) (omega arith) ∙ h (suc k) (omega arith)) (same_at p (a + 1 + n) (a + suc n) (omega arith) ∙ e)
    ∙ same_at Some (a + 1 + n) (a + suc n) (omega arith))

pub first-passing : (p : ℕ → Bool) (n : ℕ) → ((k : ℕ) → k < n → p k ≡ false) → p n ≡ true → find p (range_with_len 0 (suc n)) ≡ Some n
first-passing p n h e =
    first-from p n 0 (λ k l. ap p (zero-add k) ∙ h k l) (ap p (zero-add n) ∙ e) ∙ ap Some (zero-add n)
