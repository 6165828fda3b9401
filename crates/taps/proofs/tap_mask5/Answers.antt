-- `taps::tap_mask5` meets its contract: four cells and the one after them.
use mathlib.Core.Path.{sym, ◌∙◌}
use Prim.Native.Nat.{◌*◌}
use native.Mathlib.Omega.{arith}
use lib.Bits.{and_le_r}
use lib.ListN.{take, length-take}
use Rattle.lines.proofs.RowWords.{bytes_of}
use Rattle.taps.proofs.Masks.{mask-few}
use Rattle.taps.proofs.Words.{one_word, first-none, rest-told, rest-none, one-zero, fifth-placed}
use Rattle.taps.proofs.tap_mask5.Goals as goal

pub overflow_add-result : goal.overflow_add-result
overflow_add-result c =
    omega (
      arith,
      mask-few 10 (take 4 c.args.row.now) c.in-Mask.mask (omega (arith, length-take 4 c.args.row.now)) (sym c.tap_mask4.ensures ∙ c.in-Mask.is),
      and_le_r (c.from-last.result * 16) 16,
    )

pub returns-then-last-eq48 : goal.returns-then-last-eq48
returns-then-last-eq48 c =
    rest-told c.args.row.now 4 1 c.requires (omega arith) _ 48 (c.from-last.ensures ∙ one_word c.args.row.now 4 c.requires) one-zero c.in-Mask.mask 16 16
    (sym c.in-Mask.is ∙ c.tap_mask4.ensures) (bytes_of c.args.row.now (λ k. (c.type_inv.row k).fits)) fifth-placed c.if-last-eq48.true

pub returns-else-last-eq48 : goal.returns-else-last-eq48
returns-else-last-eq48 c =
    rest-none c.args.row.now 4 1 c.requires (omega arith) _ 48 (c.from-last.ensures ∙ one_word c.args.row.now 4 c.requires) one-zero c.if-last-eq48.false

pub returns-in-Other : goal.returns-in-Other
returns-in-Other c = first-none c.args.row.now 4 1 c.requires (omega arith) (sym c.in-Other.is ∙ c.tap_mask4.ensures)
