-- A column in which nothing is open, and numbers of columns of which one is put.
use mathlib.Core.Path.{◌≡◌, ap, sym, ◌∙◌}
use mathlib.Core.Bool.{or-false}
use mathlib.Core.List.{List}
use Prim.Native.Nat.{ℕ}
use native.Mathlib.Nat.{add-zero}
use lib.ListN.{get_or, set}
use lib.Seq.{set-get_or}
use Rattle.definitions.specs.declared.DepthEffect.TheVariants.{Blocks}
use Rattle.phantoms.specs.declared.Phantoms.{Phantoms}
use Rattle.phantoms.specs.Phantoms.{phantom_at, with_effect}
use Rattle.phantoms.proofs.Effects.{blocked}

-- a number that stays
pub set-same : (l : List ℕ) (i v : ℕ) → get_or l i 0 ≡ v → l ≡ set l i v
set-same l i v e = sym (ap (set l i) (sym e) ∙ set-get_or l i 0)

-- a cell that blocks changes nothing where the depth is 0
pub block-none : (p : Phantoms) (c : ℕ) → phantom_at p c ≡ 0 → p ≡ with_effect p c Blocks
unfolding with_effect
block-none p c e = rw (blocked p c, add-zero p.heads, add-zero p.tails, e, or-false p.met)
