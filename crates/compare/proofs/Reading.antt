-- The numbers that some bytes hold, one by one, and the bits that floats have.
use mathlib.Core.Path.{◌≡◌, refl, ap, sym, ◌∙◌, subst}
use mathlib.Core.Bool.{Bool, true, false, not}
use mathlib.Core.List.{List, map}
use Prim.Native.Nat.{ℕ, zero, suc, ◌+◌, ◌*◌, ◌/◌, ◌<◌, ◌≤◌}
use native.Mathlib.Omega.{arith}
use lib.Dec.{T, leb}
use lib.Ieee.{Float, nan, inf, fin, binary32, ne, is_nan, to_bits}
use lib.Ieee.Compare.{differs_from_itself, nan_differs}
use lib.ListN.{length, get_or, length-map}
use Rattle.lines.specs.Words.{half_word_at, word_at}
use Rattle.std.proofs.lemmas.List.{get_or-map}
use Rattle.std.proofs.Common.{IsTrue, EachIndex, ◌↔◌}
use Rattle.compare.specs.Agreement.{has_answer, read_every, numbers, longs, float_bits, bits_of_floats}
use Rattle.compare.proofs.Comparing.{has_by, has-long}

module _ (step : ℕ) (read : ℕ → ℕ) where
  pub every-length : (at k : ℕ) → length (read_every step read at k) ≡ k
  every-length at zero = refl
  every-length at (suc k) = ap suc (every-length (at + step) k)

  every_get : (at k i j : ℕ) → i < k → at + i * step ≡ j → get_or (read_every step read at k) i 0 ≡ read j
  every_get at zero i j h e = absurd (omega arith)
  every_get at (suc k) zero j h e = ap read (omega arith)
  every_get at (suc k) (suc i) j h e = every_get (at + step) k i j (omega arith) (omega arith)

module _ (s : List ℕ) where
  pub numbers-length : length (numbers s) ≡ length s / 4
  unfolding numbers
  numbers-length = every-length 4 (half_word_at s) 0 (length s / 4)

  pub longs-length : length (longs s) ≡ length s / 8
  unfolding longs
  longs-length = every-length 8 (word_at s) 0 (length s / 8)

  pub number-get : (i : ℕ) → i < length s / 4 → get_or (numbers s) i 0 ≡ half_word_at s (4 * i)
  unfolding numbers
  number-get i h = every_get 4 (half_word_at s) 0 (length s / 4) i (4 * i) h (omega arith)

  pub long-get : (i : ℕ) → i < length s / 8 → get_or (longs s) i 0 ≡ word_at s (8 * i)
  unfolding longs
  long-get i h = every_get 8 (word_at s) 0 (length s / 8) i (8 * i) h (omega arith)

-- a float's bits: what differs from itself is no number
pub bits_none : (x : Float) → ne x x ≡ true → float_bits x ≡ 4294967296
unfolding float_bits is_nan
bits_none x e = rw (differs_from_itself x (subst T (sym e) tt))

a-number : (x : Float) → ne x x ≡ false → is_nan x ≡ false
unfolding is_nan
a-number nan e = let z : ◌≡◌ {A = ℕ} 0 1 = cc nan_differs in absurd (omega arith)
a-number (inf s) e = refl
a-number (fin s m k) e = refl

pub has-bits : (x : Float) → ne x x ≡ false → T (not (is_nan x))
has-bits x e = subst (λ (t : Bool). T (not t)) (sym (a-number x e)) tt

pub bits-some : (x : Float) → ne x x ≡ false → float_bits x ≡ to_bits binary32 x
unfolding float_bits
bits-some x e = rw (a-number x e)

-- a test of each float's bits is the comparison of the bits
pub bits-by : (l : List Float) (d : Float) (ys : List ℕ) (t : Bool) → length ys ≤ length l → IsTrue t ↔ EachIndex l (λ k. float_bits (get_or l k d) ≡ get_or ys k 0) → t ≡ has_answer (bits_of_floats l) ys
unfolding bits_of_floats
bits-by l d ys t h p =
    has_by (map float_bits l) ys t (omega (arith, length-map l float_bits)) (
      λ e k h. let g : k < length l = omega (arith, length-map l float_bits) in get_or-map float_bits l k d 0 g ∙ p.0 e k g,
      λ f. p.1 (λ k h. sym (get_or-map float_bits l k d 0 h) ∙ f k (omega (arith, length-map l float_bits))),
    )

-- floats with an answer of more numbers
pub bits-long : (l : List Float) (ys : List ℕ) (n : ℕ) → length l < n → length ys ≡ n → leb n (length l) ≡ has_answer (bits_of_floats l) ys
unfolding bits_of_floats
bits-long l ys n h q = rw (← length-map l float_bits) (has-long (map float_bits l) ys n (omega (arith, length-map l float_bits)) q)
