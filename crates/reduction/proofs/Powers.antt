-- Powers of two, multiples and places in a text.
use mathlib.Core.Path.{◌≡◌}
use mathlib.Core.Bool.{false}
use Prim.Native.Nat.{ℕ, suc, ◌+◌, ◌*◌, ◌^◌, ◌%◌, ◌≤◌, ◌<◌}
use native.Mathlib.Nat.{
  pow-succ',
  mul_comm,
  suc-mul,
  add-mul,
  one-mul,
  mul-le-mul_right,
  mul-le-mul_left,
  dvd_trans,
  dvd-mul_right,
  dvd_of_mul-dvd-mul_left,
  mod-eq-zero_of_dvd,
  dvd_of_mod-eq-zero,
}
use native.Mathlib.Omega.{arith}
use lib.Pow.{pow-add}
use borrow.Author.Tests.{ne_eqb}
use Rattle.definitions.proofs.Reduction.{below_power}
use Rattle.definitions.specs.Reduction.{multiple}

pub power_pos : (e : ℕ) → 0 < 2 ^ e
power_pos e = omega (arith, below_power e)

-- an odd multiple of a power of two is no multiple of a greater one
pub odd-multiple : (k e m : ℕ) → (m % 2 ≡ 0 → ⊥) → multiple (2 ^ (k + suc e)) (2 ^ k * m) ≡ false
odd-multiple k e m h =
    ne_eqb (2 ^ k * m % 2 ^ (k + suc e)) 0
    (λ q.
    h
    (mod-eq-zero_of_dvd 2
    (dvd_trans 2 (dvd-mul_right 2 (2 ^ e))
    (dvd_of_mul-dvd-mul_left {k = 2 ^ k} (2 * 2 ^ e) (power_pos k) (rw (pow-add 2 k (suc e), pow-succ' 2 e) at (dvd_of_mod-eq-zero (2 ^ (k + suc e)) q))))))

-- the place past a row is not past the rows
pub row-end : (row rows width : ℕ) → row < rows → row * width + width ≤ rows * width
row-end row rows width h = rw (suc-mul) at (mul-le-mul_right {m = suc row} {n = rows} width h)

-- twice a number that divides another an even number of times is not greater
pub twice-fits : (n step left : ℕ) → n ≡ step * left → 0 < left → left % 2 ≡ 0 → 2 * step ≤ n
twice-fits n step left e p h = rw e (rw (mul_comm 2 step) (mul-le-mul_left step (omega arith)))

-- where the row after row k begins
pub next-at : (at start k lanes : ℕ) → at ≡ start + k * (lanes + 1) → at + lanes + 1 ≡ start + (k + 1) * (lanes + 1)
next-at at start k lanes e = rw (add-mul, one-mul) (omega arith)
