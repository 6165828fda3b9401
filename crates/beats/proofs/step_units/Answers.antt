-- `beats::step_units` meets its contract. Assumes nothing.
use Rattle.std.proofs.Common.{◌≡◌, ℕ, ◌*◌, ◌^◌, ◌<◌, false, sym, ◌∙◌, subst, le_of_eq, lt_of_lt_of_le, lt_of_le_of_lt, div-one, lit<, lit≤}
use lib.Ieee.{Float, binary32, of_bits, of_int, mul, div, to_unsigned}
use lib.Ieee.Exact.{HasValue}
use Rattle.definitions.specs.Beats.{f32, step}
use Rattle.beats.proofs.Values.{cut, above_minus_one, below-pow}
use Rattle.beats.proofs.Step.{units, units_lt, step_value, step-float, step-bound}
use Rattle.beats.proofs.step_units.Goals as goal

-- what the code hands to the truncation
abbrev code : ℕ → Float
code n = mul binary32 (div binary32 (of_bits binary32 1082130432) (f32 n)) (of_bits binary32 1426063360)

code-float : (n : ℕ) → 0 < n → n < 2 ^ 22 → HasValue (code n) false (units n) 1
unfolding step of_bits of_int
code-float n P S = step-float n P S

cut-is : (n : ℕ) → 0 < n → n < 2 ^ 22 → to_unsigned 64 (code n) ≡ units n
cut-is n P S =
    cut 64 (code n) (units n) 1 (lit< tt) (lt_of_le_of_lt (le_of_eq (div-one (units n))) (lt_of_lt_of_le (units_lt n P S) (lit≤ tt))) (code-float n P S)
    ∙ div-one (units n)

pub truncating_f32_to_u64-requires : goal.truncating_f32_to_u64-requires
truncating_f32_to_u64-requires c =
    let v = code-float c.args.n c.requires.some c.requires.rows_few in record { lower_bound = above_minus_one (code c.args.n) (units c.args.n) 1 v; upper_bound = below-pow 64 (code c.args.n) (units c.args.n) 1 (lit< tt) (lt_of_lt_of_le (units_lt c.args.n c.requires.some c.requires.rows_few) (lit≤ tt)) v }

pub returns : goal.returns
returns c =
    let e : units c.args.n ≡ c.truncating_f32_to_u64.result = sym (c.truncating_f32_to_u64.ensures ∙ cut-is c.args.n c.requires.some c.requires.rows_few) in
    record { value = subst (λ (z : ℕ). HasValue (step c.args.n) false z (2 ^ 43)) e (step_value c.args.n c.requires.some c.requires.rows_few); few = subst (λ (z : ℕ). z * c.args.n < 2 ^ 46) e (step-bound c.args.n c.requires.some c.requires.rows_few) }
