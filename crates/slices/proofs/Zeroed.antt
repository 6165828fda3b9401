-- The laws of the filling loops, over the element.
use mathlib.Core.Path.{◌≡◌, refl, ap, sym, ◌∙◌}
use mathlib.Core.List.{List, ◌++◌, append_assoc}
use mathlib.Core.Logic.{inl, inr}
use Prim.Native.Nat.{ℕ, zero, suc, ◌+◌, ◌-◌, ◌%◌, ◌<◌, ◌≤◌, max}
use lib.Ieee.{Float, binary32, fits, to_bits, of_bits}
use lib.Ieee.Bits.{of_bits-to_bits}
use lib.ListN.{length, get_or, take, replicate, length-replicate, replicate-append-replicate}
use lib.Seq.{length-take-le}
use native.Mathlib.Omega.{arith}
use borrow.Rule.Slice.PartMut.{put_mid}
use Rattle.std.specs.Prelude.{true}
use Rattle.std.specs.Int.{bit_at}
use Rattle.std.specs.Int.RustNames.{bit_or, bit_xor}
use Rattle.std.specs.Bool.{passes}
use Rattle.std.proofs.lemmas.Bool.{cases_lt}
use Rattle.std.proofs.lemmas.Nat.Bits.{bit_at-lt, bit_at-zero, bit_at_or, bit_at_xor, same_from_bits}
use Rattle.std.proofs.lemmas.Slice.{take-put_mid}
use Rattle.definitions.specs.Lists.{padded}
use Rattle.slices.specs.Zeroed.{zeroed}

-- a slice that begins with the answer, zeroed after it, is the answer padded
pub zeroed-padded : {A : Type 0} (z : A) (answer l : List A) → take (length answer) l ≡ answer → zeroed z (length answer) l ≡ padded z (length l) answer
zeroed-padded z answer l e = rw e

-- the same of a slice that had n entries before it was written, where f gives the answer of a lane count
pub zeroed-answer : {A : Type 0} (z : A) (l : List A) (k n : ℕ) (f : ℕ → List A) {L L₁ : ℕ} → L ≡ L₁ → length l ≡ n → k ≤ length l → take k l ≡ f L → zeroed z k l ≡ padded z n (f L₁)
zeroed-answer z l k n f {L} same size h e =
    let long : k ≡ length (f L) = sym (length-take-le k l h) ∙ ap length e in
    ap (λ m. zeroed z m l) long
    ∙ zeroed-padded z (f L) l (ap (λ m. take m l) (sym long) ∙ e)
    ∙ ap (λ m. padded z m (f L)) size
    ∙ ap (λ L. padded z n (f L)) same

-- a list of zeros has 0 at every place
pub zeros-none : (n i : ℕ) → ◌≡◌ {A = ℕ} (get_or (replicate n 0) i 0) 0
zeros-none zero i = refl
zeros-none (suc n) zero = refl
zeros-none (suc n) (suc i) = zeros-none n i

-- what each place of both halves has, each place has
pub halves-all : {A : Type 0} (z : A) (l : List A) (a h : ℕ) → a ≤ h → ((k : ℕ) → k < h → (get_or l k z ≡ z) × (get_or l (a + k) z ≡ z)) → (i : ℕ) → i < a + h → get_or l i z ≡ z
halves-all z l a h less both i within =
    elim (cases_lt i h) [
      | inl first ↦ (both i first).0
      | inr second ↦ ap (λ (j : ℕ). get_or l j z) (omega arith) ∙ (both (i - a) (omega arith)).1
    ]

-- s is l with zeros from place f on, up to place a
pub record ZeroedTo {A : Type 0} (z : A) (l s : List A) (f a : ℕ) : Type 0 where
  pub onwards : f ≤ a
  pub within : a ≤ length l
  pub front : take a s ≡ take f l ++ replicate (a - f) z

-- one part more of zeros, after those from f to a
pub zeroed-next : {A : Type 0} (z : A) (l s part : List A) (f a k n m : ℕ) → f ≤ a → a ≤ length s → take a s ≡ take f l ++ replicate (a - f) z → part ≡ replicate m z → m ≡ n → take (a + n) (put_mid a k s part) ≡ take f l ++ replicate (a + n - f) z
zeroed-next z l s part f a k n m h room so zeros all =
    take-put_mid a k s part (a + n) (omega (arith, ap length zeros, length-replicate m z)) room
    ∙ ap (λ (xs : List _). xs ++ part) so
    ∙ append_assoc (take f l) (replicate (a - f) z) part
    ∙ ap (λ (ys : List _). take f l ++ (replicate (a - f) z ++ ys)) zeros
    ∙ ap (λ (ys : List _). take f l ++ ys) (replicate-append-replicate (a - f) m z ∙ ap (λ (j : ℕ). replicate j z) (omega arith))

-- where the bits before and those in which two differ are none together, each of them is none
joined-bits : (before x y : ℕ) → bit_or before (bit_xor x y) ≡ 0 → (i : ℕ) → (bit_at before i ≡ 0) × ((bit_at x i + bit_at y i) % 2 ≡ 0)
joined-bits before x y none i =
    let both : max (bit_at before i) (bit_at (bit_xor x y) i) ≡ 0 = sym (bit_at_or before (bit_xor x y) i) ∙ ap (λ (n : ℕ). bit_at n i) none ∙ bit_at-zero i in
    (omega arith, sym (bit_at_xor x y i) ∙ omega arith)

-- there the two are the same
pub same_where_none : (before x y : ℕ) → bit_or before (bit_xor x y) ≡ 0 → x ≡ y
same_where_none before x y none =
    same_from_bits x y (λ i. equal _ _ (bit_at-lt x i) (bit_at-lt y i) (joined-bits before x y none i).1)
  where
    equal : (a b : ℕ) → a < 2 → b < 2 → (a + b) % 2 ≡ 0 → a ≡ b
    equal a b p q e = omega arith

-- and there were none before
pub none_before : (before x y : ℕ) → bit_or before (bit_xor x y) ≡ 0 → before ≡ 0
none_before before x y none = same_from_bits before 0 (λ i. (joined-bits before x y none i).0 ∙ sym (bit_at-zero i))

-- floats with the same bits are the same
pub same_bits : (x y : Float) → fits binary32 x ≡ true → fits binary32 y ≡ true → to_bits binary32 x ≡ to_bits binary32 y → x ≡ y
same_bits x y fx fy same =
    sym (of_bits-to_bits binary32 x (passes _ fx))
    ∙ ap (of_bits binary32) same
    ∙ of_bits-to_bits binary32 y (passes _ fy)
