-- `taps::tap_mask10` meets its contract: eight cells and the two after them.
use mathlib.Core.Path.{ap₂, sym, ◌∙◌}
use Prim.Native.Nat.{ℕ, ◌+◌, ◌*◌}
use native.Mathlib.Omega.{arith}
use lib.Bits.{and_le_r}
use lib.ListN.{take, length-take}
use Rattle.lines.proofs.RowWords.{bytes_of}
use Rattle.taps.proofs.Masks.{mask-few}
use Rattle.taps.proofs.Words.{two-word, first-none, rest-told, rest-none, two-zeros, last-placed}
use Rattle.taps.proofs.tap_mask10.Goals as goal

pub overflow_add-result : goal.overflow_add-result
overflow_add-result c =
    omega (
      arith,
      mask-few 10 (take 8 c.args.row.now) c.in-Mask.mask (omega (arith, length-take 8 c.args.row.now)) (sym c.tap_mask8.ensures ∙ c.in-Mask.is),
      and_le_r ((c.from.result + c.from-2.result * 256) * 258) 768,
    )

pub returns-then-last-eq12336 : goal.returns-then-last-eq12336
returns-then-last-eq12336 c =
    rest-told c.args.row.now 8 2 c.requires (omega arith) _ 12336
    (ap₂ (λ (x y : ℕ). x + y * 256) c.from.ensures c.from-2.ensures ∙ two-word c.args.row.now 8 c.requires) two-zeros c.in-Mask.mask 258 768
    (sym c.in-Mask.is ∙ c.tap_mask8.ensures) (bytes_of c.args.row.now (λ k. (c.type_inv.row k).fits)) last-placed c.if-last-eq12336.true

pub returns-else-last-eq12336 : goal.returns-else-last-eq12336
returns-else-last-eq12336 c =
    rest-none c.args.row.now 8 2 c.requires (omega arith) _ 12336
    (ap₂ (λ (x y : ℕ). x + y * 256) c.from.ensures c.from-2.ensures ∙ two-word c.args.row.now 8 c.requires) two-zeros c.if-last-eq12336.false

pub returns-in-Other : goal.returns-in-Other
returns-in-Other c = first-none c.args.row.now 8 2 c.requires (omega arith) (sym c.in-Other.is ∙ c.tap_mask8.ensures)
