-- What a cell of an effect leaves of the depths.
use mathlib.Core.Path.{◌≡◌, ap, ◌∙◌}
use mathlib.Core.Bool.{or-false}
use Prim.Native.Nat.{ℕ, ◌+◌, ◌<◌, ◌≤◌}
use native.Mathlib.Nat.{add-zero}
use native.Mathlib.Decide.{dec_lt, ℕ_discrete}
use native.Mathlib.Omega.{arith}
use lib.ListN.{length, set, length-set, get_or-eq_default}
use lib.Seq.{set-get_or, get_or-set_same, get_or-set_other}
use Rattle.definitions.proofs.Columns.{step-most}
use Rattle.definitions.proofs.Lists.{one-le}
use Rattle.definitions.specs.Correction.{phantom_step, is_opening, is_closing}
use Rattle.definitions.specs.declared.DepthEffect.{DepthEffect}
use Rattle.definitions.specs.declared.DepthEffect.TheVariants.{Nothing}
use Rattle.phantoms.specs.Phantoms.{phantom_at, Low, with_effect}
use Rattle.phantoms.specs.declared.Phantoms.{Phantoms}

-- a depth that stays
pub blocked : (p : Phantoms) (c : ℕ) → set p.depths c (phantom_at p c) ≡ p.depths
blocked p c = set-get_or p.depths c 0

pub effect-none : (p : Phantoms) (c : ℕ) → with_effect p c Nothing ≡ p
unfolding with_effect
effect-none p c = rw (blocked p c, add-zero p.heads, add-zero p.tails, or-false p.met)

module _ (p : Phantoms) (c : ℕ) (e : DepthEffect) where
  pub effect-here : c < length p.depths → phantom_at (with_effect p c e) c ≡ phantom_step e (phantom_at p c)
  unfolding with_effect
  effect-here h = get_or-set_same p.depths c (phantom_step e (phantom_at p c)) 0 h

  -- there is no such column
  effect-past : length p.depths ≤ c → phantom_at (with_effect p c e) c ≡ 0
  unfolding with_effect
  effect-past h = get_or-eq_default (set p.depths c (phantom_step e (phantom_at p c))) 0 (rw (length-set p.depths c (phantom_step e (phantom_at p c))) h)

  pub effect-others : (d : ℕ) → (d ≡ c → ⊥) → phantom_at (with_effect p c e) d ≡ phantom_at p d
  unfolding with_effect
  effect-others d n = get_or-set_other p.depths c d (phantom_step e (phantom_at p c)) 0 n

  -- the depth 0 stays, where the effect leaves it
  pub effect-zero : phantom_step e 0 ≡ 0 → phantom_at p c ≡ 0 → phantom_at (with_effect p c e) c ≡ 0
  effect-zero z f =
      elim (dec_lt c (length p.depths)) [
        | yes h ↦ effect-here h ∙ ap (phantom_step e) f ∙ z
        | no n ↦ effect-past (omega arith)
      ]

  effect-most : phantom_at (with_effect p c e) c ≤ phantom_at p c + 1
  effect-most =
      elim (dec_lt c (length p.depths)) [
        | yes h ↦ omega (arith, effect-here h, step-most e (phantom_at p c))
        | no n ↦ omega (arith, effect-past (omega arith))
      ]

  -- a cell adds at most 1 to each count
  pub effect-low : (k : ℕ) → Low k p → Low (k + 1) (with_effect p c e)
  unfolding with_effect
  effect-low k l =
      record {
        depths =
            λ d b.
            elim (ℕ_discrete d c) [
              | yes q ↦ rw q (omega (arith, effect-most, l.depths c (rw q at b)))
              | no n ↦ omega (arith, effect-others d n, l.depths d b)
            ];
        heads = omega (arith, one-le (is_opening e), l.heads);
        tails = omega (arith, one-le (is_closing e), l.tails);
      }
