-- The bytes that the specification's section Damage names, and what the definitions make of them.
use mathlib.Core.Path.{◌≡◌, refl, ap, sym, ◌∙◌}
use mathlib.Core.Bool.{Bool, true, false, false≢true}
use Prim.Native.Nat.{ℕ}
use native.Mathlib.Omega.{arith}
use Rattle.definitions.specs.Cells.{cell_of, object_effect}
use Rattle.definitions.specs.Notes.{effect_at}
use Rattle.definitions.specs.Objects.{object_at}
use Rattle.definitions.specs.declared.DepthEffect.{DepthEffect}
use Rattle.definitions.specs.declared.DepthEffect.TheVariants as depth
use Rattle.definitions.specs.declared.NoteEffect.{NoteEffect}
use Rattle.definitions.specs.declared.NoteEffect.TheVariants.{Nothing, Closes, Single, Head}
use Rattle.definitions.proofs.Lists.{none, one}
use Rattle.definitions.proofs.Cells.{by-letter, other-empty}
use Rattle.definitions.specs.Damage.{stops, is_head, head_kind, object}

-- an effect that closes an open head or drops it, and one that heads a note
abbrev pub stopping : NoteEffect → Bool
stopping Nothing = false
stopping Closes = true
stopping (Single k) = true
stopping (Head k) = true

abbrev pub heading : NoteEffect → Bool
heading Nothing = false
heading Closes = false
heading (Single k) = false
heading (Head k) = true

pub stops-is : (b : ℕ) → stops b ≡ stopping (effect_at b)
unfolding stops effect_at cell_of
stops-is =
    by-letter (λ b. stops b ≡ stopping (effect_at b))
    (one refl (one refl (one refl (one refl (one refl (one refl (one refl (one refl (one refl (one refl (one refl none)))))))))))
    (λ b h. rw (other-empty b h, h 49 refl, h 50 refl, h 51 refl, h 52 refl, h 77 refl, h 76 refl, h 70 refl, h 109 refl, h 108 refl, h 102 refl))

pub head-is : (b : ℕ) → is_head b ≡ heading (effect_at b)
unfolding is_head effect_at cell_of
head-is =
    by-letter (λ b. is_head b ≡ heading (effect_at b))
    (one refl (one refl (one refl (one refl (one refl (one refl (one refl (one refl (one refl (one refl (one refl none)))))))))))
    (λ b h. rw (other-empty b h, h 50 refl, h 52 refl))

-- a head of its kind
pub head-kind : (b : ℕ) → is_head b ≡ true → effect_at b ≡ Head (head_kind b)
unfolding is_head head_kind effect_at cell_of
head-kind =
    by-letter (λ b. is_head b ≡ true → effect_at b ≡ Head (head_kind b))
    (one no (one (λ h. refl) (one no (one (λ h. refl) (one no (one no (one no (one no (one no (one no (one no none)))))))))))
    (λ b h e. no (rw (h 50 refl, h 52 refl) at e))
  where
    no : {A : Type 0} → false ≡ true → A
    no e = absurd (false≢true e)

pub object-blocks : (b : ℕ) → object b ≡ true → object_at b ≡ depth.Blocks
unfolding object object_at cell_of
object-blocks =
    by-letter (λ b. object b ≡ true → object_at b ≡ depth.Blocks)
    (one (λ h. refl) (one no (one no (one no (one (λ h. refl) (one (λ h. refl) (one (λ h. refl) (one (λ h. refl) (one no (one no (one no none)))))))))))
    (λ b h e. no (rw (h 49 refl, h 77 refl, h 76 refl, h 70 refl, h 75 refl) at e))
  where
    no : {A : Type 0} → false ≡ true → A
    no e = absurd (false≢true e)

-- only a 3 closes
pub closes-three : (b : ℕ) → object_at b ≡ depth.Closes → b ≡ 51
unfolding object_at cell_of
closes-three =
    by-letter (λ b. object_at b ≡ depth.Closes → b ≡ 51)
    (one (no blocks) (one (no opens) (one (λ h. refl) (one (no opens) (one (no blocks) (one (no blocks) (one (no blocks) (one (no blocks) (one (no empty) (one (no empty) (one (no empty) none)))))))))))
    (λ b h e. no empty (ap object_effect (sym (other-empty b h)) ∙ e))
  where
    no : {A : Type 0} {x : DepthEffect} → (x ≡ depth.Closes → ⊥) → x ≡ depth.Closes → A
    no f e = absurd (f e)

    blocks : depth.Blocks ≡ depth.Closes → ⊥
    blocks e = let z : ◌≡◌ {A = ℕ} 0 1 = cc in omega arith

    opens : depth.Opens ≡ depth.Closes → ⊥
    opens e = let z : ◌≡◌ {A = ℕ} 0 1 = cc in omega arith

    empty : depth.Nothing ≡ depth.Closes → ⊥
    empty e = let z : ◌≡◌ {A = ℕ} 0 1 = cc in omega arith
