-- `cell_walk::Run::walk_rare` meets its contract: what each letter does, and the tally with it.
use native.Mathlib.Omega.{arith}
use Rattle.definitions.specs.Cells.{cell_of}
use Rattle.definitions.specs.declared.Cell.TheVariants.{Lift, Fake, LowerMine, LowerLift, LowerFake}
use Rattle.cells.proofs.Letters.{empty-letter}
use Rattle.row_walk.proofs.Effects.{walked-empty, counted-empty, done-walked, done-counted}
use Rattle.row_walk.proofs.cell_walk.Run.walk_rare.Goals as goal

pub returns-in-76-clause-walked : goal.returns-in-76-clause-walked
unfolding cell_of
returns-in-76-clause-walked c = done-walked Lift c.args.b _ _ _ _ _ (rw c.in-76.is) c.count.ensures _ _ c.block.ensures.walked

pub returns-in-76-clause-counted : goal.returns-in-76-clause-counted
unfolding cell_of
returns-in-76-clause-counted c = done-counted Lift c.args.b _ _ c.args.self.now _ _ (rw c.in-76.is) c.count.ensures c.block.ensures.stats_stay

pub returns-in-70-clause-walked : goal.returns-in-70-clause-walked
unfolding cell_of
returns-in-70-clause-walked c = done-walked Fake c.args.b _ _ _ _ _ (rw c.in-70.is) c.count-in-70.ensures _ _ c.block-in-70.ensures.walked

pub returns-in-70-clause-counted : goal.returns-in-70-clause-counted
unfolding cell_of
returns-in-70-clause-counted c = done-counted Fake c.args.b _ _ c.args.self.now _ _ (rw c.in-70.is) c.count-in-70.ensures c.block-in-70.ensures.stats_stay

pub returns-in-109-clause-walked : goal.returns-in-109-clause-walked
unfolding cell_of
returns-in-109-clause-walked c = done-walked LowerMine c.args.b _ _ _ _ _ (rw c.in-109.is) c.count-in-109.ensures _ _ c.lower.ensures.walked

pub returns-in-109-clause-counted : goal.returns-in-109-clause-counted
unfolding cell_of
returns-in-109-clause-counted c = done-counted LowerMine c.args.b _ _ c.args.self.now _ _ (rw c.in-109.is) c.count-in-109.ensures c.lower.ensures.stats_stay

pub returns-in-108-clause-walked : goal.returns-in-108-clause-walked
unfolding cell_of
returns-in-108-clause-walked c = done-walked LowerLift c.args.b _ _ _ _ _ (rw c.in-108.is) c.count-in-108.ensures _ _ c.lower-in-108.ensures.walked

pub returns-in-108-clause-counted : goal.returns-in-108-clause-counted
unfolding cell_of
returns-in-108-clause-counted c = done-counted LowerLift c.args.b _ _ c.args.self.now _ _ (rw c.in-108.is) c.count-in-108.ensures c.lower-in-108.ensures.stats_stay

pub returns-in-102-clause-walked : goal.returns-in-102-clause-walked
unfolding cell_of
returns-in-102-clause-walked c = done-walked LowerFake c.args.b _ _ _ _ _ (rw c.in-102.is) c.count-in-102.ensures _ _ c.lower-in-102.ensures.walked

pub returns-in-102-clause-counted : goal.returns-in-102-clause-counted
unfolding cell_of
returns-in-102-clause-counted c = done-counted LowerFake c.args.b _ _ c.args.self.now _ _ (rw c.in-102.is) c.count-in-102.ensures c.lower-in-102.ensures.stats_stay

pub returns-in_default-clause-walked : goal.returns-in_default-clause-walked
returns-in_default-clause-walked c = walked-empty _ _ _ _ (empty-letter _ c.requires.letter c.requires.no_mine (λ e. omega (arith, c.in_default)) (λ e. omega (arith, c.in_default)) c.requires.no_keysound (λ e. omega (arith, c.in_default)) (λ e. omega (arith, c.in_default)) (λ e. omega (arith, c.in_default))) c.requires.fits.column.ten c.requires.fits.column.free

pub returns-in_default-clause-counted : goal.returns-in_default-clause-counted
returns-in_default-clause-counted c = counted-empty _ c.args.column c.args.columns c.args.self.now (empty-letter _ c.requires.letter c.requires.no_mine (λ e. omega (arith, c.in_default)) (λ e. omega (arith, c.in_default)) c.requires.no_keysound (λ e. omega (arith, c.in_default)) (λ e. omega (arith, c.in_default)) (λ e. omega (arith, c.in_default)))
