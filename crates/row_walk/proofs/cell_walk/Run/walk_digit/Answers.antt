-- `cell_walk::Run::walk_digit` meets its contract: what each digit does, and the tally with it.
use native.Mathlib.Omega.{arith}
use mathlib.Core.Path.{◌≡◌}
use Rattle.definitions.specs.Cells.{cell_of}
use Rattle.definitions.specs.declared.Cell.TheVariants.{Tap, Hold, Tail, Roll}
use Rattle.cells.proofs.Letters.{empty-digit}
use Rattle.row_walk.proofs.Effects.{walked-empty, counted-empty, done-walked, done-counted}
use Rattle.row_walk.proofs.cell_walk.Run.walk_digit.Goals as goal

pub returns-in-49-clause-walked : goal.returns-in-49-clause-walked
unfolding cell_of
returns-in-49-clause-walked c = done-walked Tap c.args.b _ _ _ _ _ (rw c.in-49.is) c.count.ensures _ _ c.tap.ensures.walked

pub returns-in-49-clause-counted : goal.returns-in-49-clause-counted
unfolding cell_of
returns-in-49-clause-counted c = done-counted Tap c.args.b _ _ c.args.self.now _ _ (rw c.in-49.is) c.count.ensures c.tap.ensures.stats_stay

pub returns-in-50-clause-walked : goal.returns-in-50-clause-walked
unfolding cell_of
returns-in-50-clause-walked c = done-walked Hold c.args.b _ _ _ _ _ (rw c.in-50.is) c.count-in-50.ensures _ _ c.open.ensures.walked

pub returns-in-50-clause-counted : goal.returns-in-50-clause-counted
unfolding cell_of
returns-in-50-clause-counted c = done-counted Hold c.args.b _ _ c.args.self.now _ _ (rw c.in-50.is) c.count-in-50.ensures c.open.ensures.stats_stay

pub returns-in_default-clause-walked : goal.returns-in_default-clause-walked
returns-in_default-clause-walked c = walked-empty _ _ _ _ (empty-digit _ c.if-b-lt51.true (λ e. omega (arith, c.in_default)) (λ e. omega (arith, c.in_default))) c.requires.fits.column.ten c.requires.fits.column.free

pub returns-in_default-clause-counted : goal.returns-in_default-clause-counted
returns-in_default-clause-counted c = counted-empty _ c.args.column c.args.columns c.args.self.now (empty-digit _ c.if-b-lt51.true (λ e. omega (arith, c.in_default)) (λ e. omega (arith, c.in_default)))

pub returns-then-b-eq51-clause-walked : goal.returns-then-b-eq51-clause-walked
unfolding cell_of
returns-then-b-eq51-clause-walked c = done-walked Tail c.args.b _ _ _ _ _ (rw c.if-b-eq51.true) c.count-then-b-eq51.ensures _ _ c.close.ensures.walked

pub returns-then-b-eq51-clause-counted : goal.returns-then-b-eq51-clause-counted
unfolding cell_of
returns-then-b-eq51-clause-counted c = done-counted Tail c.args.b _ _ c.args.self.now _ _ (rw c.if-b-eq51.true) c.count-then-b-eq51.ensures c.close.ensures.stats_stay

pub returns-else-b-eq51-clause-walked : goal.returns-else-b-eq51-clause-walked
unfolding cell_of
returns-else-b-eq51-clause-walked c =
    let four : c.args.b ≡ 52 = omega (arith, c.requires.digit, c.if-b-lt51.false, c.if-b-eq51.false) in
    done-walked Roll c.args.b _ _ _ _ _ (rw four) c.count-else-b-eq51.ensures _ _ c.open-else-b-eq51.ensures.walked

pub returns-else-b-eq51-clause-counted : goal.returns-else-b-eq51-clause-counted
unfolding cell_of
returns-else-b-eq51-clause-counted c =
    let four : c.args.b ≡ 52 = omega (arith, c.requires.digit, c.if-b-lt51.false, c.if-b-eq51.false) in
    done-counted Roll c.args.b _ _ c.args.self.now _ _ (rw four) c.count-else-b-eq51.ensures c.open-else-b-eq51.ensures.stats_stay
