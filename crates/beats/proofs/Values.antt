-- The operations on floats that are not negative, by any fractions that the floats equal; and where a rounding changes nothing.
-- `HasValue x false a c` says that x is finite, not negative, and a / c in size. Assumes nothing.
use Rattle.std.proofs.Common.{◌≡◌, ℕ, zero, suc, ◌+◌, ◌-◌, ◌*◌, ◌/◌, ◌%◌, ◌^◌, ◌<◌, ◌≤◌, min, Bool, true, false, cond, not, T, eqb, pos, sym, refl, ap, ◌∙◌, subst, ap₂, true≢false, lt_of_lt_of_le, le_of_lt, lt_irrefl, zero-lt-suc, mul_assoc, mul_comm, add-mul, lt_of_mul-lt-mul_right, mul-lt-mul_of_pos_right, mul-pos, one-mul, lt_of_not-le, zero-mul, mul-one, mul_right_comm, not-le_of_lt, mul_left_comm, arith, lit<, lit≤, le→leb, eqb→eq, ltb→lt, lt→ltb, nltb→le, pow_pos, pow_mono, pow-add, shl_lt}
use native.Mathlib.Nat.{eq_of_mul-eq-mul_right}
use lib.Ieee.{Float, nan, inf, fin, Format, binary32, prec, emax, low, up, down, round, add, sum, mul, div, lt, of_int, in_float, to_unsigned}
use lib.Ieee.Fits.{down_pos, up_pos}
use lib.Ieee.Exact.{HasValue, round_exact}
use lib.Ieee.Nearest.{div_same}
use lib.Ieee.Order.{transfer}
use lib.Ieee.Scale.{round_same}
use lib.Ieee.Back.{round_whole}
use Rattle.definitions.specs.Beats.{f32}

-- from one fraction to another of the same size
pub rescale : (x : Float) (s : Bool) (a c b d : ℕ) → 0 < c → a * d ≡ b * c → HasValue x s a c → HasValue x s b d
rescale nan s a c b d C e v = v
rescale (inf t) s a c b d C e v = v
rescale (fin t m g) s a c b d C e v = (
  v.0,
  eq_of_mul-eq-mul_right c C (m * up g * d) (b * down g)
      (mul_right_comm (m * up g) d c
      ∙ ap (λ (z : ℕ). z * d) v.1
      ∙ mul_right_comm a (down g) d
      ∙ ap (λ (z : ℕ). z * down g) e
      ∙ mul_right_comm b c (down g)),
)

-- ---- a sum of two fractions with one denominator
sum-cross : (M N e g a b c : ℕ) → M * c ≡ a * e → N * c ≡ b * g → (M * g + N * e) * c ≡ (a + b) * (e * g)
sum-cross M N e g a b c p q =
    add-mul (M * g) (N * e) c
    ∙ ap₂ ◌+◌ (mul_right_comm M g c ∙ ap (λ (z : ℕ). z * g) p ∙ mul_assoc a e g)
    (mul_right_comm N e c ∙ ap (λ (z : ℕ). z * e) q ∙ mul_assoc b g e ∙ ap (λ (z : ℕ). b * z) (mul_comm g e))
    ∙ sym (add-mul a b (e * g))

pub add_at : (f : Format) (x y : Float) (a b c : ℕ) → 0 < c → HasValue x false a c → HasValue y false b c → add f x y ≡ round f false (a + b) c
unfolding add sum
add_at f nan y a b c C h k = absurd h
add_at f (inf s) y a b c C h k = absurd h
add_at f (fin s m e) nan a b c C h k = absurd k
add_at f (fin s m e) (inf t) a b c C h k = absurd k
add_at f (fin true m e) (fin t n g) a b c C h k = absurd (true≢false h.0)
add_at f (fin false m e) (fin true n g) a b c C h k = absurd (true≢false k.0)
add_at f (fin false m e) (fin false n g) a b c C h k =
    round_same f false (m * up e * down g + n * up g * down e) (down e * down g) (a + b) c (mul-pos (down_pos e) (down_pos g)) C
    (sum-cross (m * up e) (n * up g) (down e) (down g) a b c h.1 k.1)

-- ---- a product
mul-cross : (M N e g a b c d : ℕ) → M * c ≡ a * e → N * d ≡ b * g → M * N * (c * d) ≡ a * b * (e * g)
mul-cross M N e g a b c d p q =
    simp (mul_assoc, mul_comm, mul_left_comm) (simp (mul_assoc, mul_comm, mul_left_comm) at (ap₂ ◌*◌ p q))

pub mul_at : (f : Format) (x y : Float) (a c b d : ℕ) → 0 < c → 0 < d → HasValue x false a c → HasValue y false b d → mul f x y ≡ round f false (a * b) (c * d)
unfolding mul
mul_at f nan y a c b d C D h k = absurd h
mul_at f (inf s) y a c b d C D h k = absurd h
mul_at f (fin s m e) nan a c b d C D h k = absurd k
mul_at f (fin s m e) (inf t) a c b d C D h k = absurd k
mul_at f (fin true m e) (fin t n g) a c b d C D h k = absurd (true≢false h.0)
mul_at f (fin false m e) (fin true n g) a c b d C D h k = absurd (true≢false k.0)
mul_at f (fin false m e) (fin false n g) a c b d C D h k =
    round_same f false (m * up e * (n * up g)) (down e * down g) (a * b) (c * d) (mul-pos (down_pos e) (down_pos g)) (mul-pos C D)
    (mul-cross (m * up e) (n * up g) (down e) (down g) a b c d h.1 k.1)

-- ---- a quotient
div-cross : (M N e g a b c d : ℕ) → M * c ≡ a * e → N * d ≡ b * g → M * g * (c * b) ≡ a * d * (N * e)
div-cross M N e g a b c d p q =
    simp (mul_assoc, mul_comm, mul_left_comm) (simp (mul_assoc, mul_comm, mul_left_comm) at (ap₂ ◌*◌ p (sym q)))

product-pos : (n u d b g : ℕ) → n * u * d ≡ b * g → 0 < b → 0 < g → n ≡ 0 → ⊥
product-pos n u d b g e B G z =
    lt_irrefl 0 (subst (λ (k : ℕ). 0 < k) (sym e ∙ ap (λ (k : ℕ). k * u * d) z ∙ ap (λ (k : ℕ). k * d) (zero-mul u) ∙ zero-mul d) (mul-pos B G))

pub div-at : (f : Format) (x y : Float) (a c b d : ℕ) → 0 < c → 0 < d → 0 < b → HasValue x false a c → HasValue y false b d → div f x y ≡ round f false (a * d) (c * b)
unfolding div
div-at f nan y a c b d C D B h k = absurd h
div-at f (inf s) y a c b d C D B h k = absurd h
div-at f (fin s m e) nan a c b d C D B h k = absurd k
div-at f (fin s m e) (inf t) a c b d C D B h k = absurd k
div-at f (fin true m e) (fin t n g) a c b d C D B h k = absurd (true≢false h.0)
div-at f (fin false m e) (fin true n g) a c b d C D B h k = absurd (true≢false k.0)
div-at f (fin false m e) (fin false n g) a c b d C D B h k = go (eqb n 0) (eqb→eq n 0)
  where
    N : n ≡ 0 → ⊥
    N = product-pos n (up g) d b (down g) k.1 B (down_pos g)

    pos_of : (j : ℕ) → (j ≡ 0 → ⊥) → 0 < j
    pos_of zero z = absurd (z refl)
    pos_of (suc j) z = zero-lt-suc j

    go : (z : Bool) → (T z → n ≡ 0) → cond z (cond (eqb m 0) nan (inf false)) (round f false (m * up e * down g) (n * up g * down e)) ≡ round f false (a * d) (c * b)
    go true w = absurd (N (w tt))
    go false w =
        round_same f false (m * up e * down g) (n * up g * down e) (a * d) (c * b) (mul-pos (mul-pos (pos_of n N) (up_pos g)) (down_pos e)) (mul-pos C B)
        (div-cross (m * up e) (n * up g) (down e) (down g) a b c d h.1 k.1)

-- ---- where nothing is rounded
of_int_is : (f : Format) (n : ℕ) → of_int f (pos n) ≡ round f false n 1
unfolding of_int
of_int_is f n = refl

pub of-whole : (f : Format) (n : ℕ) → n ≤ 2 ^ prec f → HasValue (of_int f (pos n)) false n 1
of-whole f n h = subst (λ (z : Float). HasValue z false n 1) (sym (of_int_is f n)) (round_whole f false n h)

pub in-float : (f : Format) (n : ℕ) → n ≤ 2 ^ prec f → T (in_float f (pos n))
unfolding in_float
in-float f n h = le→leb n (2 ^ prec f) h

pub power : (k : ℕ) → HasValue (fin false 1 (pos k)) false (2 ^ k) 1
power k = (refl, ap (λ (z : ℕ). z * 1) (one-mul (2 ^ k)))

-- a * 2 ^ j / 2 ^ k, for an a of no more digits than the format keeps: it is a * 2 ^ e of the format's smallest values
pub exact : (f : Format) (a j k e : ℕ) → e + k ≡ j + low f → a < 2 ^ prec f → a * 2 ^ e < 2 ^ (low f + suc (emax f))
    → HasValue (round f false (a * 2 ^ j) (2 ^ k)) false (a * 2 ^ j) (2 ^ k)
exact f a j k e E A B =
    round_exact f false (a * 2 ^ j) (2 ^ k) a e (pow_pos k) A B
    (mul_assoc a (2 ^ j) (2 ^ low f)
    ∙ ap (λ (z : ℕ). a * z) (sym (pow-add 2 j (low f)) ∙ ap (λ (z : ℕ). 2 ^ z) (sym E) ∙ pow-add 2 e k)
    ∙ sym (mul_assoc a (2 ^ e) (2 ^ k)))

-- ---- a float without its fraction
pub cut : (w : ℕ) (x : Float) (a c : ℕ) → 0 < c → a / c < 2 ^ w → HasValue x false a c → to_unsigned w x ≡ a / c
unfolding to_unsigned
cut w nan a c C h v = absurd v
cut w (inf s) a c C h v = absurd v
cut w (fin true m e) a c C h v = absurd (true≢false v.0)
cut w (fin false m e) a c C h v = ap (λ (z : ℕ). min z (2 ^ w - 1)) (div_same (m * up e) (down e) a c (down_pos e) C v.1) ∙ cap (a / c) (2 ^ w) h
  where
    cap : (a c : ℕ) → a < c → min a (c - 1) ≡ a
    cap a c h = omega arith

-- ---- what a truncation asks
pub above_minus_one : (x : Float) (a c : ℕ) → HasValue x false a c → T (lt (fin true 1 (pos 0)) x)
unfolding lt
above_minus_one nan a c v = absurd v
above_minus_one (inf s) a c v = absurd v
above_minus_one (fin true m e) a c v = absurd (true≢false v.0)
above_minus_one (fin false m e) a c v =
    lt→ltb 0 (1 * up (pos 0) * down e + m * up e * down (pos 0))
    (sum-pos (1 * up (pos 0) * down e) (m * up e * down (pos 0)) (mul-pos (zero-lt-suc 0) (down_pos e)))
  where
    sum-pos : (i j : ℕ) → 0 < i → 0 < i + j
    sum-pos i j h = omega arith

pub below-pow : (w : ℕ) (x : Float) (a c : ℕ) → 0 < c → a < 2 ^ w * c → HasValue x false a c → T (lt x (fin false 1 (pos w)))
unfolding lt
below-pow w nan a c C h v = absurd v
below-pow w (inf s) a c C h v = absurd v
below-pow w (fin true m e) a c C h v = absurd (true≢false v.0)
below-pow w (fin false m e) a c C h v =
    lt→ltb (m * up e * 1) (1 * 2 ^ w * down e)
    (lt_of_mul-lt-mul_right c
    (subst (λ (z : ℕ). z * c < 1 * 2 ^ w * down e * c) (sym (mul-one (m * up e)))
    (subst (λ (z : ℕ). z < 1 * 2 ^ w * down e * c) (sym v.1)
    (subst (λ (z : ℕ). a * down e < z) (mul_right_comm (2 ^ w) c (down e) ∙ ap (λ (z : ℕ). z * down e * c) (sym (one-mul (2 ^ w))))
    (mul-lt-mul_of_pos_right h (down_pos e))))))

-- ---- the order, as one of the fractions
pub order : (x y : Float) (a c b d : ℕ) → 0 < c → 0 < d → HasValue x false a c → HasValue y false b d
    → (T (lt x y) → a * d < b * c) × (T (not (lt x y)) → b * c ≤ a * d)
unfolding lt
order nan y a c b d C D h k = absurd h
order (inf s) y a c b d C D h k = absurd h
order (fin s m e) nan a c b d C D h k = absurd k
order (fin s m e) (inf u) a c b d C D h k = absurd k
order (fin true m e) (fin u n g) a c b d C D h k = absurd (true≢false h.0)
order (fin false m e) (fin true n g) a c b d C D h k = absurd (true≢false k.0)
order (fin false m e) (fin false n g) a c b d C D h k =
    let M = m * up e in
    let N = n * up g in (
      λ t. lt_of_not-le (λ (z : b * c ≤ a * d). not-le_of_lt (ltb→lt (M * down g) (N * down e) t) (transfer N M (down g) (down e) b a d c D C k.1 h.1 z)),
      λ t. transfer b a d c N M (down g) (down e) (down_pos g) (down_pos e) (sym k.1) (sym h.1) (nltb→le (M * down g) (N * down e) t),
    )

-- ---- a number of up to 48 digits by 2 ^ k, in two halves that are exact
module _ (k g : ℕ) (E : g + k ≡ 149) (u p : Float) (U : HasValue u false 1 (2 ^ k)) (p-is : p ≡ fin false 1 (pos 24)) where
  far : (a j : ℕ) → a < 2 ^ 24 → j ≤ 24 → a * 2 ^ (j + g) < 2 ^ 277
  far a j A J = lt_of_lt_of_le (shl_lt 24 (j + g) A) (pow_mono {i = 24 + (j + g)} {j = 277} (omega arith))

  shifted : (j : ℕ) → j + g + k ≡ j + 149
  shifted j = omega arith

  -- a unit of the upper half
  upper : HasValue (mul binary32 u p) false (2 ^ 24) (2 ^ k)
  upper =
      subst (λ (z : Float). HasValue z false (2 ^ 24) (2 ^ k))
      (sym (mul_at binary32 u p 1 (2 ^ k) (2 ^ 24) 1 (pow_pos k) (lit< tt) U (subst (λ (z : Float). HasValue z false (2 ^ 24) 1) (sym p-is) (power 24))
      ∙ ap (λ (z : ℕ). round binary32 false (2 ^ 24) z) (mul-one (2 ^ k))))
      (exact binary32 1 24 k (24 + g) (shifted 24) (lit< tt) (far 1 24 (lit< tt) (lit≤ tt)))

  half : (a j : ℕ) (y : Float) → a < 2 ^ 24 → j ≤ 24 → HasValue y false (2 ^ j) (2 ^ k) → HasValue (mul binary32 (f32 a) y) false (a * 2 ^ j) (2 ^ k)
  half a j y A J v =
      subst (λ (z : Float). HasValue z false (a * 2 ^ j) (2 ^ k))
      (sym (mul_at binary32 (f32 a) y a 1 (2 ^ j) (2 ^ k) (lit< tt) (pow_pos k) (of-whole binary32 a (le_of_lt A)) v
      ∙ ap (λ (z : ℕ). round binary32 false (a * 2 ^ j) z) (one-mul (2 ^ k))))
      (exact binary32 a j k (j + g) (shifted j) A (far a j A J))

  pub halves : (x : ℕ) → x < 2 ^ 48
      → add binary32 (mul binary32 (f32 (x / 16777216)) (mul binary32 u p)) (mul binary32 (f32 (x % 16777216)) u) ≡ round binary32 false x (2 ^ k)
  halves x h =
      add_at binary32 _ _ (x / 16777216 * 16777216) (x % 16777216 * 1) (2 ^ k) (pow_pos k)
      (half (x / 16777216) 24 (mul binary32 u p) (omega arith) (lit≤ tt) upper)
      (half (x % 16777216) 0 u (omega arith) (lit≤ tt) U)
      ∙ ap (λ (z : ℕ). round binary32 false z (2 ^ k)) (joined x)
    where
      joined : (x : ℕ) → x / 16777216 * 16777216 + x % 16777216 * 1 ≡ x
      joined x = omega arith
