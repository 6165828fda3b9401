-- The damage theorem at the two texts of specs/DamageExample.antt: all its hypotheses are met there.
use mathlib.Core.Path.{◌≡◌, refl}
use mathlib.Core.Bool.{Bool, true, false, ◌||◌, true≢false}
use mathlib.Core.List.{[], ◌∷◌}
use Prim.Native.Nat.{ℕ, zero, suc}
use native.Mathlib.Omega.{arith}
use borrow.Author.Tests.{eq-eqb}
use lib.Dec.{eqb}
use Rattle.definitions.specs.Lists.{among}
use Rattle.definitions.specs.Lines.{Row, is_blank_byte, is_row_line, kind_of, line_kind}
use Rattle.definitions.specs.Cells.{byte_at}
use Rattle.definitions.specs.Measures.{chart}
use Rattle.definitions.specs.Objects.{last48, last_beat_of}
use Rattle.definitions.specs.Examples.{bytes}
use Rattle.definitions.specs.Damage.{DamageStays, all_later, object, HoldObject, ObjectFirst}
use Rattle.definitions.specs.DamageExample.{old_text, new_text, they_differ}
use Rattle.definitions.proofs.Damage.Stays.{damage-stays}

pub example-stays : DamageStays 4 1 old_text new_text
example-stays = damage-stays 4 1 old_text new_text they_differ

holds-object : HoldObject (all_later 4 1 old_text)
unfolding HoldObject object old_text chart line_kind kind_of is_row_line is_blank_byte
holds-object = (1, (0, refl))

-- a row that has no 3 has none in any column
no-three : (r : Row) (c : ℕ) → among 51 r ≡ false → byte_at c r ≡ 51 → ⊥
no-three [] c n e = omega (arith, e)
no-three (b ∷ r) zero n e = true≢false (rw (eq-eqb 51 b (omega (arith, e))) at n)
no-three (b ∷ r) (suc c) n e = no-three r c (other (eqb 51 b) n) e
  where
    other : (t : Bool) → (t || among 51 r) ≡ false → among 51 r ≡ false
    other true h = absurd (true≢false h)
    other false h = h

-- of the later rows 0100, 0200, 0300 and 1000 the third alone has a 3, in column 1, and the first has a 1 there
object-first : ObjectFirst (all_later 4 1 old_text)
unfolding ObjectFirst object old_text chart line_kind kind_of is_row_line is_blank_byte
object-first c zero e = absurd (no-three (bytes "0100") c refl e)
object-first c (suc zero) e = absurd (no-three (bytes "0200") c refl e)
object-first zero (suc (suc zero)) e = absurd (omega (arith, e))
object-first (suc zero) (suc (suc zero)) e = (0, omega arith, refl)
object-first (suc (suc c)) (suc (suc zero)) e = absurd (no-three (bytes "00") c refl e)
object-first c (suc (suc (suc zero))) e = absurd (no-three (bytes "1000") c refl e)
object-first c (suc (suc (suc (suc i)))) e = absurd (no-three [] c refl e)

pub example-last : (last_beat_of 4 old_text ≡ last_beat_of 4 new_text) × (last48 4 old_text ≡ last48 4 new_text)
example-last = (example-stays.same_last holds-object object-first, example-stays.same_last48 holds-object object-first)
