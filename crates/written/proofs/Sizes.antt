-- How much is to be written.
use mathlib.Core.Path.{◌≡◌, ap, sym, ◌∙◌}
use mathlib.Core.List.{List, [], ◌∷◌}
use Rattle.std.specs.Prelude.{Ok, Err}
use Prim.Native.Nat.{ℕ, ◌+◌, ◌-◌, ◌*◌, ◌≤◌, ◌<◌}
use native.Mathlib.Nat.{mul-le-mul_left, mul-le-mul_right}
use native.Mathlib.Omega.{arith}
use borrow.Author.Tests.{lt-ltb, le-ltb}
use lib.ListN.{length, get_or}
use Rattle.definitions.specs.Sizes.{most_bytes}
use Rattle.definitions.specs.Refusals.{refused_if, long_text}
use Rattle.definitions.specs.Written.{sum_of, written_length}
use Rattle.definitions.specs.declared.Refusal.TheVariants.{LongText}

too-long : (n : ℕ) → most_bytes < n → long_text n ≡ Err LongText
unfolding long_text
too-long n h = ap (λ t. refused_if t LongText) (lt-ltb most_bytes n h)

pub not-long : (n : ℕ) → n ≤ most_bytes → long_text n ≡ Ok tt
unfolding long_text
not-long n h = ap (λ t. refused_if t LongText) (le-ltb most_bytes n h)

pub long-rows : (L : ℕ) (counts : List ℕ) → 4 ≤ L → 4194304 < sum_of counts → long_text (written_length L counts) ≡ Err LongText
unfolding written_length
long-rows L counts four h =
    let five : 5 * sum_of counts ≤ (L + 1) * sum_of counts = mul-le-mul_right (sum_of counts) (at-least L four) in
    too-long ((L + 1) * sum_of counts + 2 * (length counts - 1)) (omega (arith, five))
  where
    at-least : (L : ℕ) → 4 ≤ L → 5 ≤ L + 1
    at-least L h = omega arith

pub long-measures : (L : ℕ) (counts : List ℕ) → 8388608 < length counts → long_text (written_length L counts) ≡ Err LongText
unfolding written_length
long-measures L counts h = too-long ((L + 1) * sum_of counts + 2 * (length counts - 1)) (omega arith)

module _ (L : ℕ) (counts : List ℕ) (rows bytes : ℕ) (same : rows ≡ sum_of counts) (size : bytes ≡ (L + 1) * rows + 2 * (length counts - 1)) where
  pub bytes-are : bytes ≡ written_length L counts
  unfolding written_length
  bytes-are = size ∙ ap (λ n. (L + 1) * n + 2 * (length counts - 1)) same

  pub long-bytes : most_bytes < bytes → long_text (written_length L counts) ≡ Err LongText
  long-bytes h = ap long_text (sym bytes-are) ∙ too-long bytes h

  pub short-bytes : bytes ≤ most_bytes → long_text (written_length L counts) ≡ Ok tt
  short-bytes h = ap long_text (sym bytes-are) ∙ not-long bytes h

-- what is not too long has few rows
pub sum-few : (L : ℕ) (counts : List ℕ) → 4 ≤ L → written_length L counts ≤ most_bytes → sum_of counts ≤ 4194304
unfolding written_length
sum-few L counts four h =
    let five : 5 * sum_of counts ≤ (L + 1) * sum_of counts = mul-le-mul_right (sum_of counts) (at-least L four) in
    omega (arith, five)
  where
    at-least : (L : ℕ) → 4 ≤ L → 5 ≤ L + 1
    at-least L h = omega arith

pub first-few : (counts : List ℕ) → get_or counts 0 0 ≤ sum_of counts
first-few [] = omega arith
first-few (n ∷ counts) = omega arith

pub first-room : (L : ℕ) (counts : List ℕ) (size : ℕ) → written_length L counts ≤ size → 0 + (L + 1) * get_or counts 0 0 ≤ size
unfolding written_length
first-room L counts size h = omega (arith, mul-le-mul_left (L + 1) (first-few counts))
