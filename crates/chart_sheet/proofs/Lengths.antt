-- How long numbers, what is put after another, and lists of entries can be.
use Rattle.std.proofs.Common.{ℕ, zero, suc, ◌+◌, ◌*◌, ◌^◌, ◌<◌, ◌≤◌, List, length, length-append, arith}
use lib.ListN.{length-replicate}
use Rattle.std.specs.Prelude.{decimal}
use Rattle.std.proofs.lemmas.Fmt.{length-decimal-le}
use native.Mathlib.Nat.{mul-suc}
use Rattle.page.specs.Texts.{number_field, aligned, listed}

pub number-digit : (n : ℕ) → n < 10 → length (decimal n) ≤ 1
number-digit n h = length-decimal-le 1 n (omega arith) (omega arith) (omega arith)

pub number_short : (n : ℕ) → n < 100000000 → length (decimal n) ≤ 8
number_short n h = length-decimal-le 8 n (omega arith) h (omega arith)

-- a figure that a call answers
pub number-length : (n : ℕ) → n < 2 ^ 64 → length (decimal n) ≤ 20
number-length n h = length-decimal-le 20 n (omega arith) (omega arith) h

-- with the byte after it
pub field-most : (n after c : ℕ) → length (decimal n) ≤ c → length (number_field n after) ≤ c + 1
unfolding number_field
field-most n after c h = rw length-append (omega arith)

pub field-digit : (n after : ℕ) → n < 10 → length (number_field n after) ≤ 2
field-digit n after h = field-most n after 1 (number-digit n h)

pub field-short : (n after : ℕ) → n < 100000000 → length (number_field n after) ≤ 9
field-short n after h = field-most n after 8 (number_short n h)

pub field-length : (n after : ℕ) → n < 2 ^ 64 → length (number_field n after) ≤ 21
field-length n after h = field-most n after 20 (number-length n h)

pub aligned-length : (width n : ℕ) → n < 2 ^ 64 → length (aligned width n) ≤ width + 20
unfolding aligned
aligned-length width n h = rw (length-append, length-replicate) (omega (arith, number-length n h))

pub aligned-short : (width n c : ℕ) → n < 100000000 → width ≤ c → 8 ≤ c → length (aligned width n) ≤ c
unfolding aligned
aligned-short width n c h w g = rw (length-append, length-replicate) (omega (arith, number_short n h))

-- n entries of at most c bytes
pub listed-most : (f : ℕ → List ℕ) (n c : ℕ) → ((k : ℕ) → k < n → length (f k) ≤ c) → length (listed f n) ≤ c * n
listed-most f zero c h = omega arith
listed-most f (suc n) c h =
    rw (length-append, mul-suc) (omega (arith, listed-most f n c (λ k g. h k (omega arith)), h n (omega arith)))
