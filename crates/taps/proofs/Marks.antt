-- A mask of ten columns with or without the bit of one of them, and the numbers of the columns without a bit.
use mathlib.Core.Path.{◌≡◌, refl, ap, sym, ◌∙◌}
use mathlib.Core.Bool.{Bool, true, false, not}
use mathlib.Core.List.{List}
use Prim.Native.Nat.{ℕ, ◌*◌, ◌/◌, ◌%◌, ◌-◌, ◌^◌, ◌<◌}
use native.Mathlib.Decide.{ℕ_discrete}
use native.Mathlib.Nat.{one-mul, mod-lt, mod-eq_of_lt}
use native.Mathlib.Omega.{arith}
use borrow.Author.Tests.{eq-eqb, ne_eqb}
use lib.Bits.{bit_and, bit_or}
use lib.Dec.{eqb}
use lib.ListN.{get_or}
use lib.Pow.{pow-lt}
use Rattle.definitions.specs.Lists.{number_of_bool}
use Rattle.taps.specs.Taps.{bit, FreeAre, Marked}
use Rattle.taps.proofs.Tables.{up_from, same_at}
use Rattle.taps.proofs.Free.{bit-and, bit-or}

-- the bit of one column
own-bit : (i c : ℕ) → i < 10 → c < 10 → bit c (2 ^ i) ≡ number_of_bool (eqb c i)
own-bit i c h k =
    same_at (λ c. bit c (2 ^ i)) (λ c. number_of_bool (eqb c i)) 10
    (same_at (λ i. up_from (λ c. bit c (2 ^ i)) 0 10) (λ i. up_from (λ c. number_of_bool (eqb c i)) 0 10) 10 refl i h) c k

-- all but one
other-bits : (i c : ℕ) → i < 10 → c < 10 → bit c (4294967295 - 2 ^ i) ≡ number_of_bool (not (eqb c i))
other-bits i c h k =
    same_at (λ c. bit c (4294967295 - 2 ^ i)) (λ c. number_of_bool (not (eqb c i))) 10
    (same_at (λ i. up_from (λ c. bit c (4294967295 - 2 ^ i)) 0 10) (λ i. up_from (λ c. number_of_bool (not (eqb c i))) 0 10) 10 refl i h) c k

-- the bit of a column as the shift gives it
pub shifted : (i : ℕ) → i < 10 → 1 * 2 ^ i % 4294967296 ≡ 2 ^ i
shifted i h = ap (λ (n : ℕ). n % 4294967296) (one-mul (2 ^ i)) ∙ mod-eq_of_lt (omega (arith, pow-lt {j = 10} h))

small : (c m : ℕ) → bit c m < 2
small c m = mod-lt (m / 2 ^ c) (omega arith)

module _ (busy i : ℕ) (h : i < 10) where
  pub marked-with : (b : ℕ) → b ≡ 2 ^ i → Marked busy i true (bit_or busy b)
  marked-with b e = rw e (record {
    here =
        let o : bit i (2 ^ i) ≡ 1 = own-bit i i h h ∙ rw (eq-eqb i i refl) in
        let m = bit-or busy (2 ^ i) i in
        omega (arith, small i busy);
    others =
        λ c k ne.
        let o : bit c (2 ^ i) ≡ 0 = own-bit i c h k ∙ rw (ne_eqb c i ne) in
        let m = bit-or busy (2 ^ i) c in
        omega arith;
  })

  pub marked-without : (b : ℕ) → b ≡ 2 ^ i → Marked busy i false (bit_and busy (4294967295 - b))
  marked-without b e = rw e (record {
    here =
        let o : bit i (4294967295 - 2 ^ i) ≡ 0 = other-bits i i h h ∙ rw (eq-eqb i i refl) in
        let m = bit-and busy (4294967295 - 2 ^ i) i in
        omega arith;
    others =
        λ c k ne.
        let o : bit c (4294967295 - 2 ^ i) ≡ 1 = other-bits i c h k ∙ rw (ne_eqb c i ne) in
        let m = bit-and busy (4294967295 - 2 ^ i) c in
        omega (arith, small c busy);
  })

-- where a column has a bit, nothing is said of its number
none-used : (b : Bool) → number_of_bool b ≡ 0 → b ≡ false
none-used true e = absurd (omega arith)
none-used false e = refl

-- the numbers of ten columns, of which the one at i is another
pub free-marked : (busy i r : ℕ) (used : Bool) (n : ℕ) (l k : List ℕ) → Marked busy i used r → (used ≡ false → get_or k i 0 ≡ n)
    → ((c : ℕ) → (c ≡ i → ⊥) → get_or k c 0 ≡ get_or l c 0) → FreeAre busy n l → FreeAre r n k
free-marked busy i r used n l k M here others f c h e =
    elim (ℕ_discrete c i) [
      | yes q ↦ rw q (here (none-used used (sym M.here ∙ (rw q at e))))
      | no ne ↦ others c ne ∙ f c h (sym (M.others c h ne) ∙ e)
    ]
