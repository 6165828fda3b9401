-- `beats::lrint_f64` meets its contract: w is the whole part of x, and is small, so that w and a half is a float exactly,
-- and the two tests say which whole number is nearest. Assumes nothing.
use Rattle.std.proofs.Common.{◌≡◌, ℕ, ◌+◌, ◌*◌, ◌/◌, ◌%◌, ◌^◌, ◌<◌, ◌≤◌, Bool, false, not, T, sym, ◌∙◌, subst, lt_of_lt_of_le, lt_of_le_of_lt, mul-lt-mul_of_pos_right, add-one, arith, lit<, lit≤}
use lib.Ieee.{Float, binary64, add, of_bits, to_unsigned}
use lib.Ieee.Exact.{HasValue}
use lib.Ieee.Positive.{num, den, den_pos}
use Rattle.definitions.specs.Beats.{f64}
use Rattle.beats.specs.Upto.{Upto}
use Rattle.beats.proofs.Values.{in-float, cut, above_minus_one, below-pow}
use Rattle.beats.proofs.Last.{quotient-lt, half-value, down-case, up-case, tie-case}
use Rattle.beats.proofs.lrint_f64.Goals as goal

-- the whole part of x, which the truncation gives
whole-part : (x : Float) → Upto x (2 ^ 38) → to_unsigned 64 x ≡ num x / den x
whole-part x u = cut 64 x (num x) (den x) (den_pos x) (lt_of_lt_of_le (quotient-lt x u) (lit≤ tt)) u.value

small : (x : Float) → Upto x (2 ^ 38) → (w : ℕ) → w ≡ to_unsigned 64 x → w < 2 ^ 39
small x u w e = subst (λ (z : ℕ). z < 2 ^ 39) (sym (e ∙ whole-part x u)) (quotient-lt x u)

abbrev half : ℕ → Float
half w = add binary64 (f64 w) (of_bits binary64 4602678819172646912)

half_is : (w : ℕ) → w < 2 ^ 39 → HasValue (half w) false (w * 2 + 1) 2
unfolding of_bits
half_is w h = half-value w h

even-le : (w : ℕ) → w < 2 ^ 39 → w + w % 2 ≤ 2 ^ 39
even-le w h = omega arith

pub truncating_f64_to_u64-w-requires : goal.truncating_f64_to_u64-w-requires
truncating_f64_to_u64-w-requires c =
    let x = c.args.x in
    let u = c.requires in
    record {
      lower_bound = above_minus_one x (num x) (den x) u.value;
      upper_bound = below-pow 64 x (num x) (den x) (den_pos x) (lt_of_le_of_lt u.most (mul-lt-mul_of_pos_right (lit< tt) (den_pos x))) u.value;
    }

pub int_to_float-half : goal.int_to_float-half
int_to_float-half c = in-float binary64 _ (omega (arith, small c.args.x c.requires c.truncating_f64_to_u64-w.result c.truncating_f64_to_u64-w.ensures))

pub returns-then-x-half : goal.returns-then-x-half
returns-then-x-half c =
    let x = c.args.x in
    let u = c.requires in
    let w = c.truncating_f64_to_u64-w.result in
    let s = small x u w c.truncating_f64_to_u64-w.ensures in
    record { value = down-case x u.value w (c.truncating_f64_to_u64-w.ensures ∙ whole-part x u) (half w) (half_is w s) (subst T (sym c.if-x-half.true) tt); few = omega (arith, s) }

pub overflow_add-result : goal.overflow_add-result
overflow_add-result c = omega (arith, small c.args.x c.requires c.truncating_f64_to_u64-w.result c.truncating_f64_to_u64-w.ensures)

pub returns-then-half-x : goal.returns-then-half-x
returns-then-half-x c =
    let x = c.args.x in
    let u = c.requires in
    let w = c.truncating_f64_to_u64-w.result in
    let s = small x u w c.truncating_f64_to_u64-w.ensures in
    record { value = add-one w ∙ up-case x u.value w (c.truncating_f64_to_u64-w.ensures ∙ whole-part x u) (half w) (half_is w s) (subst T (sym c.if-half-x.true) tt); few = omega (arith, s) }

pub overflow_add-result-2 : goal.overflow_add-result-2
overflow_add-result-2 c = omega (arith, small c.args.x c.requires c.truncating_f64_to_u64-w.result c.truncating_f64_to_u64-w.ensures)

pub returns : goal.returns
returns c =
    let x = c.args.x in
    let u = c.requires in
    let w = c.truncating_f64_to_u64-w.result in
    let s = small x u w c.truncating_f64_to_u64-w.ensures in
    let left = subst (λ (b : Bool). T (not b)) (sym c.if-x-half.false) tt in
    let left-2 = subst (λ (b : Bool). T (not b)) (sym c.if-half-x.false) tt in
    record { value = tie-case x u.value w (c.truncating_f64_to_u64-w.ensures ∙ whole-part x u) (half w) (half_is w s) left left-2; few = even-le w s }
