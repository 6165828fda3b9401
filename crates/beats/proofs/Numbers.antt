-- `compare` from the order of two numbers, their order from `compare`, and the binary digits of a number. Assumes nothing.
use Rattle.std.proofs.Common.{◌≡◌, ℕ, ◌^◌, ◌<◌, ◌≤◌, not, T, eqb, refl, subst, lt_of_lt_of_le, le_of_lt, lt_of_not-le, not-le_of_lt, arith, le→leb, eqb→eq, leb→le, pow_mono}
use Prim.Native.Nat.{compare, Ordering}
use lib.Dec.{is_le, compare_is_eq, nleb→lt, eqb_refl}
use lib.Arith.{lt→nleb, lt_of_le-ne}
use lib.Ieee.{size}
use lib.Ieee.Digits.{size-lt}

pub cmp-lt : (a b : ℕ) → a < b → compare a b ≡ Ordering.lt
cmp-lt a b h = go (compare a b) (le→leb a b (le_of_lt h)) (λ (t : T (eqb a b)). differ a b h (eqb→eq a b t))
  where
    differ : (a b : ℕ) → a < b → a ≡ b → ⊥
    differ a b h e = omega arith

    go : (o : Ordering) → T (is_le o) → (T (compare_is_eq o) → ⊥) → o ≡ Ordering.lt
    go Ordering.lt x y = refl
    go Ordering.eq x y = absurd (y tt)
    go Ordering.gt x y = absurd x

pub cmp-eq : (a b : ℕ) → a ≡ b → compare a b ≡ Ordering.eq
cmp-eq a b e = go (compare a b) (subst (λ (z : ℕ). T (eqb a z)) e (eqb_refl a))
  where
    go : (o : Ordering) → T (compare_is_eq o) → o ≡ Ordering.eq
    go Ordering.lt t = absurd t
    go Ordering.eq t = refl
    go Ordering.gt t = absurd t

pub cmp-gt : (a b : ℕ) → b < a → compare a b ≡ Ordering.gt
cmp-gt a b h = go (compare a b) (lt→nleb a b h)
  where
    go : (o : Ordering) → T (not (is_le o)) → o ≡ Ordering.gt
    go Ordering.lt x = absurd x
    go Ordering.eq x = absurd x
    go Ordering.gt x = refl

-- what `compare` says of a and b
abbrev pub Ordered : Ordering → ℕ → ℕ → Type 0
Ordered Ordering.lt a b = a < b
Ordered Ordering.eq a b = a ≡ b
Ordered Ordering.gt a b = b < a

pub ordered : (a b : ℕ) → Ordered (compare a b) a b
ordered a b = go (compare a b) (leb→le a b) (nleb→lt a b) (eqb→eq a b) (λ (e : a ≡ b). subst (λ (x : ℕ). T (eqb a x)) e (eqb_refl a))
  where
    go : (o : Ordering) → (T (is_le o) → a ≤ b) → (T (not (is_le o)) → b < a) → (T (compare_is_eq o) → a ≡ b) → (a ≡ b → T (compare_is_eq o))
        → Ordered o a b
    go Ordering.lt h k e n = lt_of_le-ne (h tt) n
    go Ordering.eq h k e n = e tt
    go Ordering.gt h k e n = k tt

pub size-gt : (n j : ℕ) → 2 ^ j ≤ n → j < size n
size-gt n j h = lt_of_not-le (λ (g : size n ≤ j). not-le_of_lt (lt_of_lt_of_le (size-lt n) (pow_mono g)) h)
