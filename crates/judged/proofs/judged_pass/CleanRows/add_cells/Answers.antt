-- `judged_pass::CleanRows::add_cells` meets its contract: the row has begun, and passes whole or not.
use mathlib.Core.Path.{refl}
use Rattle.judged.proofs.Cells.{passing-start, row-told, before-row, begun-start, ended-whole, ended-passed}
use Rattle.judged.proofs.judged_pass.CleanRows.add_cells.Goals as goal

pub add_begun-requires-clause-begun : goal.add_begun-requires-clause-begun
add_begun-requires-clause-begun c =
    begun-start _ _ _ _ _ (before-row c.args.self.now _ (rw (c.from.ensures, c.from-2.ensures) refl)) c.requires.ready c.requires.few

pub returns-clause-clean : goal.returns-clause-clean
returns-clause-clean c =
    row-told _ _ (λ n. c.add_begun.ensures.clean n _ (passing-start _ _ c.requires.ready))
    (ended-whole _ _ _ _ _ (before-row c.args.self.now _ (rw (c.from.ensures, c.from-2.ensures) refl)) c.requires.ready _ _ c.add_begun.ensures.ended)

pub returns-clause-passed : goal.returns-clause-passed
returns-clause-passed c =
    ended-passed _ _ _ _ _ (before-row c.args.self.now _ (rw (c.from.ensures, c.from-2.ensures) refl)) c.requires.ready _ _ c.add_begun.ensures.ended
