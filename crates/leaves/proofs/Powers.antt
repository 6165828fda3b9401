-- No number of 64 bits but 0 is a multiple of 2 to a power over 63. Assumes nothing.
use Rattle.std.proofs.Common.{◌≡◌, false, List, ℕ, zero, suc, ◌%◌, ◌^◌, ◌<◌, arith}
use Rattle.std.specs.Prelude.{◌==◌}
use borrow.Author.Tests.{ne_eqb}
use Rattle.definitions.specs.Reduction.{stride}
use Rattle.reduction.specs.Rows.{rows_at}
use Rattle.reduction.proofs.Powers.{power_pos}
use Rattle.reduction.proofs.Compaction.{power-fits}

pub power_over : (shift n : ℕ) → 0 < n → n < 18446744073709551616 → 63 < shift → (n % 2 ^ shift == 0) ≡ false
power_over shift n p f h = ne_eqb (n % 2 ^ shift) 0 (λ d. omega (arith, power-fits shift n p f d))

-- the stride of a measure is 2 to a power below 64
pub stride_fits : (shift w L n : ℕ) (t : List ℕ) → n < 18446744073709551616 → 2 ^ shift ≡ stride (rows_at w L n t) → n % 2 ^ shift ≡ 0 → shift < 64
unfolding stride
stride_fits zero w L n t f e d = omega arith
stride_fits (suc shift) w L zero t f e d = let two = power_pos shift in absurd (omega arith)
stride_fits (suc shift) w L (suc n) t f e d = power-fits (suc shift) (suc n) (omega arith) f d
