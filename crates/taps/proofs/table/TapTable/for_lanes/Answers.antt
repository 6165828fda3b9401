-- `taps::TapTable::for_lanes` meets its contract: each table is its counting rule at each number, tested once, and so at every one.
use mathlib.Core.Path.{◌≡◌, refl, sym, ap₂, ◌∙◌}
use mathlib.Core.Bool.{true, false, cond}
use mathlib.Core.List.{List}
use Prim.Native.Nat.{ℕ, ◌+◌, ◌*◌, ◌-◌, ◌/◌, ◌%◌}
use native.Mathlib.Omega.{arith}
use lib.Dec.{ltb}
use Rattle.taps.specs.Taps.{mask_counts, CountsMasks}
use Rattle.taps.proofs.Tables.{up_from, entry, same_at}
use Rattle.taps.proofs.Words.{fives-counted}
use Rattle.taps.proofs.table.TapTable.for_lanes.Goals as goal

-- the rule of the table of five columns and five
abbrev five_counts : ℕ → ℕ
five_counts n = cond (ltb n 32) (mask_counts n) (cond (ltb n 64) (mask_counts (32 * (n - 32))) 0)

fives : (table : List ℕ) → table ≡ up_from five_counts 0 256 → CountsMasks true table
unfolding mask_counts
fives table rule m h =
    ap₂ ◌+◌
    (entry table five_counts 256 rule (m % 32) 0 (omega arith) ∙ same_at five_counts mask_counts 32 refl (m % 32) (omega arith))
    (entry table five_counts 256 rule (32 + m / 32) 0 (omega arith) ∙ same_at (λ k. five_counts (32 + k)) (λ k. mask_counts (32 * k)) 32 refl (m / 32) (omega arith))
    ∙ fives-counted m h

eights : (table : List ℕ) → table ≡ up_from mask_counts 0 256 → CountsMasks false table
eights table rule m h = entry table mask_counts 256 rule m 0 h

pub invariant_of-result : goal.invariant_of-result
unfolding mask_counts
invariant_of-result c =
    record { two_fives = sym c.if-is_wide.true ∙ c.is_wide.ensures; rule = fives _ refl }

pub invariant_of-result-2 : goal.invariant_of-result-2
unfolding mask_counts
invariant_of-result-2 c =
    record { two_fives = sym c.if-is_wide.false ∙ c.is_wide.ensures; rule = eights _ refl }
