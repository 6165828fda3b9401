-- `rows::NotesAbove::next_shrinks` meets its contract.
use mathlib.Core.Path.{ap, sym, ◌∙◌}
use mathlib.Core.Bool.{not, ◌&&◌}
use lib.Dec.{eqb, ltb}
use Prim.Native.Nat.{◌%◌}
use Rattle.definitions.specs.Written.{notes_in}
use Rattle.written.proofs.Held.{columns}
use Rattle.written.proofs.Bare.{shrinks-bare}
use Rattle.written.proofs.rows.NotesAbove.next_shrinks.Goals as goal

pub returns-clause-value : goal.returns-clause-value
returns-clause-value c =
    c.can_halve.ensures
    ∙ ap (λ b. ltb 0 c.args.count && (eqb (c.args.count % 2) 0 && not b)) c.take_rows-found.ensures.value
    ∙ sym (shrinks-bare c.args.lanes.count (notes_in c.args.records.now) (columns c.requires.apart.rising) c.args.first c.args.count c.requires.few)
