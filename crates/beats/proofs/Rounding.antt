-- How far a rounding goes: to a whole number a half at most, to a float half of its unit at most. Assumes nothing.
use Rattle.std.proofs.Common.{◌≡◌, ℕ, suc, ◌+◌, ◌-◌, ◌*◌, ◌/◌, ◌%◌, ◌^◌, ◌<◌, ◌≤◌, refl, ap, subst, inl, inr, mul-le-mul_right, mod-lt, eq-zero-or-pos, le-div_iff_mul-le, div-lt_iff_lt-mul, le_antisymm, lt_of_mul-lt-mul_right, mul-pos, div-add-mod', arith, pow_pos, pow_mono, pow-add}
use Prim.Native.Nat.{compare, Ordering}
use lib.Ieee.{Format, prec, low, size, nearest}
use lib.Ieee.Digits.{size-le, size_reaches}
use lib.Ieee.Nearest.{closest}
use lib.Ieee.Order.{drop, kept}
use lib.Ieee.Scale.{grid}
use Rattle.beats.proofs.Numbers.{Ordered, ordered}

-- x and y are at most e apart, each taken k times
pub record ApartBy (k x y e : ℕ) : Type 0 where
  pub most : k * x ≤ k * y + e
  pub least : k * y ≤ k * x + e

-- ---- to a whole number
down : (q r a b : ℕ) → r * 2 < b → q * b + r ≡ a → ApartBy 2 (q * b) a b
down q r a b c e = record { most = grind arith; least = grind arith }

tied : (q t r a b : ℕ) → r * 2 ≡ b → q * b + r ≡ a → t ≤ 1 → ApartBy 2 ((q + t) * b) a b
tied q t r a b c e h = let k : t * b ≤ 1 * b = mul-le-mul_right b h in record { most = grind arith; least = grind arith }

up : (q r a b : ℕ) → b < r * 2 → q * b + r ≡ a → r < b → ApartBy 2 ((q + 1) * b) a b
up q r a b c e l = record { most = grind arith; least = grind arith }

half_at : (q r a b : ℕ) (o : Ordering) → Ordered o (r * 2) b → q * b + r ≡ a → r < b → ApartBy 2 (nearest q o * b) a b
half_at q r a b Ordering.lt c e l = down q r a b c e
half_at q r a b Ordering.eq c e l = tied q (q % 2) r a b c e (omega arith)
half_at q r a b Ordering.gt c e l = subst (λ (v : ℕ). ApartBy 2 (v * b) a b) (omega arith) (up q r a b c e l)

pub within-half : (a b : ℕ) → 0 < b → ApartBy 2 (closest a b * b) a b
within-half a b B = half_at (a / b) (a % b) a b (compare (a % b * 2) b) (ordered (a % b * 2) b) (div-add-mod' a b) (mod-lt a B)

-- the one whole number that is less than a half away
pub closest-is : (a b v : ℕ) → 0 < b → 2 * a < 2 * (v * b) + b → 2 * (v * b) < 2 * a + b → closest a b ≡ v
closest-is a b v B l r =
    let h = within-half a b B in
    let over : closest a b * b < (v + 1) * b = grind (arith, h.most) in
    let under : v * b < (closest a b + 1) * b = grind (arith, h.least) in
    le_antisymm (step (lt_of_mul-lt-mul_right b over)) (step (lt_of_mul-lt-mul_right b under))
  where
    step : {x y : ℕ} → x < y + 1 → x ≤ y
    step h = omega arith

-- ---- to a float: the fraction a / c becomes `grid f a c` units
abbrev pub unit : Format → ℕ → ℕ → ℕ
unit f a c = 2 ^ drop (prec f) (a * 2 ^ low f) c

pub round-half : (f : Format) (a c : ℕ) → 0 < c → ApartBy 2 (grid f a c * c) (a * 2 ^ low f) (c * unit f a c)
round-half f a c C =
    let n = a * 2 ^ low f in
    regroup (kept (prec f) n c) (unit f a c) c n (within-half n (c * unit f a c) (mul-pos C (pow_pos (drop (prec f) n c))))
  where
    regroup : (q u c n : ℕ) → ApartBy 2 (q * (c * u)) n (c * u) → ApartBy 2 (q * u * c) n (c * u)
    regroup q u c n h = record { most = grind (arith, h.most); least = grind (arith, h.least) }

-- below 2 ^ t units the unit is at most 2 ^ (t - prec)
pub unit-most : (f : Format) (a c t : ℕ) → 0 < c → a * 2 ^ low f < 2 ^ t * c → unit f a c ≤ 2 ^ (t - prec f)
unit-most f a c t C h = pow_mono (minus (size (a * 2 ^ low f / c)) t (prec f) (size-le (a * 2 ^ low f / c) t ((div-lt_iff_lt-mul C).1 h)))
  where
    minus : (z t p : ℕ) → z ≤ t → z - p ≤ t - p
    minus z t p h = omega arith

-- beside the fraction it is small, or 1
small : (p q n c : ℕ) → p ≡ suc q → 0 < c → c * 2 ^ drop p n c * 2 ^ q ≤ n + c * 2 ^ q
small p q n c e C = elim (eq-zero-or-pos (drop p n c)) [ inl z ↦ one (2 ^ drop p n c) (2 ^ q) (ap (λ (k : ℕ). 2 ^ k) z) | inr h ↦ many h ]
  where
    one : (u w : ℕ) → u ≡ 1 → c * u * w ≤ n + c * w
    one u w h = let k : c * u * w ≡ c * 1 * w = ap (λ (x : ℕ). c * x * w) h in grind arith

    inside : (z d : ℕ) → z - p ≡ d → 0 < d → q + d < z
    inside z d f h = omega arith

    regroup : (w u v : ℕ) → v ≡ w * u → v * c ≤ n → c * u * w ≤ n + c * w
    regroup w u v e k = let m : v * c ≡ w * u * c = ap (λ (x : ℕ). x * c) e in grind arith

    many : 0 < drop p n c → c * 2 ^ drop p n c * 2 ^ q ≤ n + c * 2 ^ q
    many h =
        let d = drop p n c in
        let k : 2 ^ (q + d) * c ≤ n = (le-div_iff_mul-le C).0 (size_reaches (n / c) (q + d) (inside (size (n / c)) d refl h)) in
        regroup (2 ^ q) (2 ^ d) (2 ^ (q + d)) (pow-add 2 q d) k

pub round-small : (f : Format) (q a c : ℕ) → prec f ≡ suc q → 0 < c
    → ApartBy (2 * 2 ^ q) (grid f a c * c) (a * 2 ^ low f) (a * 2 ^ low f + c * 2 ^ q)
round-small f q a c p C =
    go (grid f a c * c) (a * 2 ^ low f) (c * unit f a c) (2 ^ q) (round-half f a c C) (small (prec f) q (a * 2 ^ low f) c p C)
  where
    go : (x y u w : ℕ) → ApartBy 2 x y u → u * w ≤ y + c * w → ApartBy (2 * w) x y (y + c * w)
    go x y u w h k =
        let l = mul-le-mul_right w h.most in
        let m = mul-le-mul_right w h.least in
        record { most = grind arith; least = grind arith }
