-- `taps::tap_line_mask` meets its contract: the width of a row of four or eight cells is that of what was looked at.
use mathlib.Core.Path.{◌≡◌, ap, ◌∙◌}
use mathlib.Core.Bool.{true}
use Prim.Native.Nat.{ℕ}
use native.Mathlib.Omega.{arith}
use lib.ListN.{length, take}
use lib.Seq.{take_all}
use Rattle.definitions.specs.Lines.{Row}
use Rattle.taps.specs.Taps.{tap_mask, has_mask, mask_of_line}
use Rattle.taps.specs.declared.Taps.{Taps}
use Rattle.taps.proofs.Masks.{no-width, line-mask, line_other}
use Rattle.taps.proofs.tap_line_mask.Goals as goal

-- a row of just the cells that were looked at
told : (row : Row) (k : ℕ) (t : Taps) → t ≡ tap_mask (take k row) → length row ≡ k → has_mask (length row) ≡ true → t ≡ mask_of_line row
told row k t e h w = e ∙ ap tap_mask (take_all k row (omega arith)) ∙ line-mask row w

pub returns-then-n-eq4 : goal.returns-then-n-eq4
returns-then-n-eq4 c = told c.args.row.now 4 _ c.tap_mask4.ensures c.if-n-eq4.true (ap has_mask c.if-n-eq4.true)

pub returns-then-n-lt6 : goal.returns-then-n-lt6
returns-then-n-lt6 c =
    let five : length c.args.row.now ≡ 5 = omega (arith, c.requires, c.if-n-lt6.true, c.if-n-eq4.false) in
    c.tap_mask5.ensures ∙ line-mask c.args.row.now (ap has_mask five)

pub returns-then-n-eq8 : goal.returns-then-n-eq8
returns-then-n-eq8 c = told c.args.row.now 8 _ c.tap_mask8.ensures c.if-n-eq8.true (ap has_mask c.if-n-eq8.true)

pub returns-then-n-eq10 : goal.returns-then-n-eq10
returns-then-n-eq10 c = c.tap_mask10.ensures ∙ line-mask c.args.row.now (ap has_mask c.if-n-eq10.true)

pub returns : goal.returns
returns c =
    line_other c.args.row.now (no-width (length c.args.row.now) (λ e. omega (arith, c.if-n-lt6.false)) (λ e. omega (arith, c.if-n-lt6.false)) c.if-n-eq8.false c.if-n-eq10.false)
