-- Bounds of floats that are not negative, through a rounding and through the operations: a result is at most twice the exact one, and 1. Assumes nothing.
use Rattle.std.proofs.Common.{◌≡◌, ℕ, suc, ◌+◌, ◌-◌, ◌*◌, ◌/◌, ◌%◌, ◌^◌, ◌<◌, ◌≤◌, false, not, T, pos, sym, refl, ap, ◌∙◌, subst, ap₂, inl, inr, le_trans, le_of_eq, lt_of_le_of_lt, mul-le-mul_right, mul_assoc, suc-mul, mul_comm, add-mul, eq-zero-or-pos, mul-le-mul, mul-le-mul_left, mul-lt-mul_of_pos_right, mul-pos, one-mul, le-div_iff_mul-le, mul-one, mul_right_comm, div-mul-le_self, le_of_mul-le-mul_right, mul_left_comm, arith, lit<, pow_pos, pow-add}
use Prim.Native.Nat.{compare}
use lib.Ieee.{Float, nan, inf, fin, Format, prec, emax, low, size, round, add, mul, div, of_int, is_nan}
use lib.Ieee.Digits.{size_reaches}
use lib.Ieee.Fits.{nearest-le, two, two-le_pos}
use lib.Ieee.Exact.{HasValue}
use lib.Ieee.Order.{drop, kept}
use lib.Ieee.Scale.{round_val, grid}
use lib.Ieee.Positive.{num, den, den_pos, value→cross}
use Rattle.beats.specs.Upto.{Upto}
use Rattle.beats.proofs.Values.{rescale, add_at, mul_at, div-at, of-whole}

pub weaken : (x : Float) (A B : ℕ) → A ≤ B → Upto x A → Upto x B
weaken x A B h u = record { value = u.value; most = le_trans u.most (mul-le-mul_right (den x) h) }

pub upto-number : (x : Float) (B : ℕ) → Upto x B → T (not (is_nan x))
unfolding is_nan
upto-number nan B u = absurd u.value
upto-number (inf s) B u = absurd u.value
upto-number (fin s m e) B u = tt

-- ---- by any fraction a / c that x equals
pub own : (x : Float) (a c : ℕ) → HasValue x false a c → HasValue x false (num x) (den x)
own nan a c v = v
own (inf s) a c v = v
own (fin s m e) a c v = (v.0, refl)

upto-of : (x : Float) (a c B : ℕ) → 0 < c → HasValue x false a c → a ≤ B * c → Upto x B
upto-of x a c B C v h =
    record {
      value = own x a c v;
      most =
          le_of_mul-le-mul_right
          (le_trans (le_of_eq (value→cross x a c v)) (le_trans (mul-le-mul_right (den x) h) (le_of_eq (mul_right_comm B c (den x)))))
          C;
    }

-- ---- a rounding: its unit is at most the number, and 1
unit-le : (p n c : ℕ) → 0 < p → 0 < c → c * 2 ^ drop p n c ≤ n + c
unit-le p n c P C = elim (eq-zero-or-pos (drop p n c)) [ inl z ↦ at_zero z | inr k ↦ above k ]
  where
    at_zero : drop p n c ≡ 0 → c * 2 ^ drop p n c ≤ n + c
    at_zero z = subst (λ (k : ℕ). c * 2 ^ k ≤ n + c) (sym z) (le_trans (le_of_eq (mul-one c)) (right n c))
      where
        right : (n c : ℕ) → c ≤ n + c
        right n c = omega arith

    above : 0 < drop p n c → c * 2 ^ drop p n c ≤ n + c
    above k =
        le_trans (le_of_eq (mul_comm c (2 ^ drop p n c)))
        (le_trans ((le-div_iff_mul-le C).0 (size_reaches (n / c) (drop p n c) (inside (size (n / c)) p P k))) (left n c))
      where
        inside : (z p : ℕ) → 0 < p → 0 < z - p → z - p < z
        inside z p P k = omega arith

        left : (n c : ℕ) → n ≤ n + c
        left n c = omega arith

grid-le : (f : Format) (a c : ℕ) → 0 < c → grid f a c * c ≤ a * 2 ^ low f + a * 2 ^ low f + c
grid-le f a c C =
    let n = a * 2 ^ low f in
    let p = prec f in
    let k = drop p n c in
    let U = c * 2 ^ k in
    total (grid f a c * c) (n / U * U) U n c
    (le_trans (le_of_eq (mul_assoc (kept p n c) (2 ^ k) c ∙ ap (λ (z : ℕ). kept p n c * z) (mul_comm (2 ^ k) c)))
    (le_trans (mul-le-mul_right U (nearest-le (n / U) (compare (n % U * 2) U))) (le_of_eq (suc-mul (n / U) U))))
    (div-mul-le_self n U) (unit-le p n c (two-le_pos p (two f)) C)
  where
    total : (K q U n c : ℕ) → K ≤ q + U → q ≤ n → U ≤ n + c → K ≤ n + n + c
    total K q U n c a b d = omega arith

pub grid-most : (f : Format) (a c B : ℕ) → 0 < c → a ≤ B * c → grid f a c ≤ (2 * B + 1) * 2 ^ low f
grid-most f a c B C h =
    let L = 2 ^ low f in
    le_of_mul-le-mul_right
    (le_trans (sums (grid f a c * c) (a * L) (B * c * L) (L * c) c (grid-le f a c C) (mul-le-mul_right L h) (le_trans (le_of_eq (sym (one-mul c))) (mul-le-mul_right c (pow_pos (low f)))))
    (le_of_eq (collect B c L)))
    C
  where
    sums : (g x y l c : ℕ) → g ≤ x + x + c → x ≤ y → c ≤ l → g ≤ 2 * y + l
    sums g x y l c a b d = omega arith

    collect : (B c L : ℕ) → 2 * (B * c * L) + L * c ≡ (2 * B + 1) * L * c
    collect B c L =
        ap₂ ◌+◌ (ap (λ (z : ℕ). 2 * z) (mul_right_comm B c L) ∙ sym (mul_assoc 2 (B * L) c) ∙ ap (λ (z : ℕ). z * c) (sym (mul_assoc 2 B L))) refl
        ∙ sym (add-mul (2 * B * L) L c)
        ∙ ap (λ (z : ℕ). z * c) (ap (λ (z : ℕ). 2 * B * L + z) (sym (one-mul L)) ∙ sym (add-mul (2 * B) 1 L))

pub grid-value : (f : Format) (a c B : ℕ) → 0 < c → a ≤ B * c → 2 * B + 1 < 2 ^ suc (emax f) → HasValue (round f false a c) false (grid f a c) (2 ^ low f)
grid-value f a c B C h E =
    round_val f a c
    (lt_of_le_of_lt (grid-most f a c B C h)
    (subst (λ (z : ℕ). (2 * B + 1) * 2 ^ low f < z) (mul_comm (2 ^ suc (emax f)) (2 ^ low f) ∙ sym (pow-add 2 (low f) (suc (emax f))))
    (mul-lt-mul_of_pos_right E (pow_pos (low f)))))

upto-round : (f : Format) (a c B : ℕ) → 0 < c → a ≤ B * c → 2 * B + 1 < 2 ^ suc (emax f) → Upto (round f false a c) (2 * B + 1)
upto-round f a c B C h E =
    upto-of (round f false a c) (grid f a c) (2 ^ low f) (2 * B + 1) (pow_pos (low f)) (grid-value f a c B C h E) (grid-most f a c B C h)

-- ---- the operations
pub upto-whole : (f : Format) (n : ℕ) → n ≤ 2 ^ prec f → Upto (of_int f (pos n)) n
upto-whole f n h = upto-of (of_int f (pos n)) n 1 n (lit< tt) (of-whole f n h) (le_of_eq (sym (mul-one n)))

pub upto-mul : (f : Format) (x y : Float) (A B : ℕ) → 2 * (A * B) + 1 < 2 ^ suc (emax f) → Upto x A → Upto y B → Upto (mul f x y) (2 * (A * B) + 1)
upto-mul f x y A B E u v =
    subst (λ (z : Float). Upto z (2 * (A * B) + 1)) (sym (mul_at f x y (num x) (den x) (num y) (den y) (den_pos x) (den_pos y) u.value v.value))
    (upto-round f (num x * num y) (den x * den y) (A * B) (mul-pos (den_pos x) (den_pos y))
    (le_trans (mul-le-mul u.most v.most) (le_of_eq (mul-mul A (den x) B (den y)))) E)
  where
    mul-mul : (a b c d : ℕ) → a * b * (c * d) ≡ a * c * (b * d)
    mul-mul a b c d = simp (mul_assoc, mul_left_comm)

pub upto-div : (f : Format) (x : Float) (n A : ℕ) → 0 < n → n ≤ 2 ^ prec f → 2 * A + 1 < 2 ^ suc (emax f) → Upto x A → Upto (div f x (of_int f (pos n))) (2 * A + 1)
upto-div f x n A N S E u =
    subst (λ (z : Float). Upto z (2 * A + 1)) (sym (div-at f x (of_int f (pos n)) (num x) (den x) n 1 (den_pos x) (lit< tt) N u.value (of-whole f n S)))
    (upto-round f (num x * 1) (den x * n) A (mul-pos (den_pos x) N)
    (le_trans (le_of_eq (mul-one (num x))) (le_trans u.most (mul-le-mul_left A (le_trans (le_of_eq (sym (mul-one (den x)))) (mul-le-mul_left (den x) N))))) E)

pub upto_add : (f : Format) (x y : Float) (A B : ℕ) → 2 * (A + B) + 1 < 2 ^ suc (emax f) → Upto x A → Upto y B → Upto (add f x y) (2 * (A + B) + 1)
upto_add f x y A B E u v =
    let a = num x in
    let c = den x in
    let b = num y in
    let d = den y in
    let P = mul-pos (den_pos x) (den_pos y) in
    let X : HasValue x false (a * d) (c * d) = rescale x false a c (a * d) (c * d) (den_pos x) (mul_left_comm a c d ∙ mul_comm c (a * d)) u.value in
    let Y : HasValue y false (b * c) (c * d) = rescale y false b d (b * c) (c * d) (den_pos y) (sym (mul_assoc b c d)) v.value in
    let M : a * d ≤ A * (c * d) = le_trans (mul-le-mul_right d u.most) (le_of_eq (mul_assoc A c d)) in
    let N : b * c ≤ B * (c * d) = le_trans (mul-le-mul_right c v.most) (le_of_eq (mul_assoc B d c ∙ ap (λ (z : ℕ). B * z) (mul_comm d c))) in
    subst (λ (z : Float). Upto z (2 * (A + B) + 1)) (sym (add_at f x y (a * d) (b * c) (c * d) P X Y))
    (upto-round f (a * d + b * c) (c * d) (A + B) P (le_trans (add-le (a * d) (A * (c * d)) (b * c) (B * (c * d)) M N) (le_of_eq (sym (add-mul A B (c * d))))) E)
  where
    add-le : (p q r s : ℕ) → p ≤ q → r ≤ s → p + r ≤ q + s
    add-le p q r s h k = omega arith
